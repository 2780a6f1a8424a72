use Rattle.std.proofs.Common.{ℕ, List, [], ◌∷◌, ◌++◌, ◌≡◌, sym, append_assoc, codes}
use Rattle.upstream_laws.specs.Carried.{request}
use Rattle.gps_upstream.proofs.asking.put_request.Goals as goal

-- the end of the request, after a name
ending : (front : List ℕ) → front ++ (34 ∷ 125 ∷ 59 ∷ 10 ∷ []) ≡ (front ++ codes "\"};") ++ (10 ∷ [])
ending front = sym (append_assoc front (codes "\"};") (10 ∷ []))

pub returns-in-None-clause-bytes : goal.returns-in-None-clause-bytes
unfolding request
returns-in-None-clause-bytes c = rw c.in-None.is c.put.ensures.bytes

pub returns-in-Some-clause-bytes : goal.returns-in-Some-clause-bytes
unfolding request
returns-in-Some-clause-bytes c =
    rw (c.in-Some.is, c.put-in-Some.ensures.bytes, c.put-len-in-Some.ensures.bytes, c.put-len.ensures.bytes, c.as_slice.ensures.text)
    (ending ((codes "?WATCH={\"raw\":2,\"device\":\"") ++ c.in-Some.name))
