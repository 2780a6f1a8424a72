-- The reports of a stream, and what a piece adds to them.
use Rattle.std.proofs.Common.{◌≡◌, ℕ, refl, sym, ap, ◌∙◌, List, [], ◌∷◌, ◌++◌, length, drop, append_assoc, append-nil, Option, Some, None}
use Rattle.std.proofs.Math.Seq.{drop-append_seam, drop-length}
use Rattle.std.proofs.lemmas.List.Concat.{flat_map-append}
use Rattle.std.specs.Option.{option_or}
use Rattle.gps_fixed.specs.Moment.{Moment}
use Rattle.gps_report.specs.declared.edge.Symbol.{Symbol}
use Rattle.gps_report.specs.declared.edge.Symbol.TheVariants.{Byte}
use Rattle.gps_report.specs.declared.packet.Packet.{Packet}
use Rattle.gps_report.specs.declared.report.Body.{Body}
use Rattle.packet_cut.specs.Packets.{Stamped, stamped, packets_of, rest_of}
use Rattle.packet_cut.proofs.StreamLaws.{packets_gain, rest_gain}
use Rattle.device_core.specs.Stream.{byte_in, edge_in, bytes_in, edges_in, piece, packets_in}
use Rattle.device_core.specs.Reports.{beyond, toff_in, last_toff, told, all_told, gained, reports_from, device_reports, Gains}

pub beyond_is : {X : Type 0} (before more all : List X) → all ≡ before ++ more → beyond before all ≡ more
beyond_is before more all e = ap (drop (length before)) e ∙ drop-append_seam before more

pub nothing_more : {X : Type 0} (xs zs : List X) → xs ≡ xs ++ zs → zs ≡ []
nothing_more xs zs e = sym (beyond_is xs zs xs e) ∙ drop-length xs

pub bytes_of_piece : (at : Moment) (bytes : List ℕ) → bytes_in (piece at bytes) ≡ stamped at bytes
bytes_of_piece at [] = refl
bytes_of_piece at (b ∷ bytes) = ap (λ t. (at, b) ∷ t) (bytes_of_piece at bytes)

pub edges_of_piece : (at : Moment) (bytes : List ℕ) → edges_in (piece at bytes) ≡ []
edges_of_piece at [] = refl
edges_of_piece at (b ∷ bytes) = edges_of_piece at bytes

pub bytes_join : (s t : List Symbol) → bytes_in (s ++ t) ≡ bytes_in s ++ bytes_in t
bytes_join s t = flat_map-append byte_in s t

pub edges_join : (s t : List Symbol) → edges_in (s ++ t) ≡ edges_in s ++ edges_in t
edges_join s t = flat_map-append edge_in s t

-- the packets that more symbols add
pub packets_join : (s t : List Symbol) → packets_in (s ++ t) ≡ packets_in s ++ packets_of (rest_of (bytes_in s) ++ bytes_in t)
packets_join s t = ap packets_of (bytes_join s t) ∙ packets_gain (bytes_in s) (bytes_in t)

pub rest_join : (s t : List Symbol) → rest_of (bytes_in (s ++ t)) ≡ rest_of (rest_of (bytes_in s) ++ bytes_in t)
rest_join s t = ap rest_of (bytes_join s t) ∙ rest_gain (bytes_in s) (bytes_in t)

pub told-append : (before ps qs : List Packet) → all_told before (ps ++ qs) ≡ all_told before ps ++ all_told (before ++ ps) qs
told-append before [] qs = ap (λ b. all_told b qs) (sym (append-nil before))
told-append before (p ∷ ps) qs =
    ap (λ t. told before p ++ t) (told-append (before ++ p ∷ []) ps qs)
    ∙ ap (λ b. told before p ++ (all_told (before ++ p ∷ []) ps ++ all_told b qs)) (append_assoc before (p ∷ []) ps)
    ∙ sym (append_assoc (told before p) (all_told (before ++ p ∷ []) ps) (all_told (before ++ p ∷ ps) qs))

pub reports-append : (before s t : List Symbol) → reports_from before (s ++ t) ≡ reports_from before s ++ reports_from (before ++ s) t
unfolding reports_from
reports-append before [] t = ap (λ b. reports_from b t) (sym (append-nil before))
reports-append before (x ∷ s) t =
    ap (λ r. gained before x ++ r) (reports-append (before ++ x ∷ []) s t)
    ∙ ap (λ b. gained before x ++ (reports_from (before ++ x ∷ []) s ++ reports_from b t)) (append_assoc before (x ∷ []) s)
    ∙ sym (append_assoc (gained before x) (reports_from (before ++ x ∷ []) s) (reports_from (before ++ x ∷ s) t))

-- what a byte adds
pub byte_gains : (s : List Symbol) (at : Moment) (b : ℕ) → gained s (Byte at b) ≡ all_told (packets_in s) (packets_of (rest_of (bytes_in s) ++ (at, b) ∷ []))
byte_gains s at b = ap (all_told (packets_in s)) (beyond_is (packets_in s) (packets_of (rest_of (bytes_in s) ++ (at, b) ∷ [])) (packets_in (s ++ Byte at b ∷ [])) (packets_join s (Byte at b ∷ [])))

none_added : (s : List Symbol) → packets_of (rest_of (bytes_in s) ++ []) ≡ []
none_added s = nothing_more (packets_in s) (packets_of (rest_of (bytes_in s) ++ [])) (ap packets_in (sym (append-nil s)) ∙ packets_join s [])

-- the packets of a rest, of one more item and of all others
one_by_one : (rest : List Stamped) (x : Stamped) (more : List Stamped)
    → packets_of (rest ++ x ∷ []) ++ packets_of (rest_of (rest ++ x ∷ []) ++ more) ≡ packets_of (rest ++ x ∷ more)
one_by_one rest x more = sym (packets_gain (rest ++ x ∷ []) more) ∙ ap packets_of (append_assoc rest (x ∷ []) more)

-- what a piece adds: its packets, each with what its note causes
pub piece_gains : (s : List Symbol) (at : Moment) (bytes : List ℕ)
    → reports_from s (piece at bytes) ≡ all_told (packets_in s) (packets_of (rest_of (bytes_in s) ++ stamped at bytes))
unfolding reports_from
piece_gains s at [] = sym (ap (all_told (packets_in s)) (none_added s))
piece_gains s at (b ∷ bytes) =
    let next = s ++ Byte at b ∷ [] in
    let rest = rest_of (bytes_in s) in
    let first = packets_of (rest ++ (at, b) ∷ []) in
    let others = packets_of (rest_of (rest ++ (at, b) ∷ []) ++ stamped at bytes) in
    ap (λ r. gained s (Byte at b) ++ r) (piece_gains next at bytes)
    ∙ ap (λ r. r ++ all_told (packets_in next) (packets_of (rest_of (bytes_in next) ++ stamped at bytes))) (byte_gains s at b)
    ∙ ap (λ r. all_told (packets_in s) first ++ all_told (packets_in next) (packets_of (r ++ stamped at bytes))) (rest_join s (Byte at b ∷ []))
    ∙ ap (λ p. all_told (packets_in s) first ++ all_told p others) (packets_join s (Byte at b ∷ []))
    ∙ sym (told-append (packets_in s) first others)
    ∙ ap (all_told (packets_in s)) (one_by_one rest (at, b) (stamped at bytes))

pub gains_piece : (s : List Symbol) (at : Moment) (bytes : List ℕ) (kept : List Stamped) (packets : List Packet) (out : List Body)
    → kept ≡ rest_of (bytes_in s) → packets ≡ packets_of (kept ++ stamped at bytes) → out ≡ all_told (packets_in s) packets → Gains s (piece at bytes) out
gains_piece s at bytes kept packets out stands are told =
    reports-append [] s (piece at bytes)
    ∙ ap (λ r. device_reports s ++ r) (piece_gains s at bytes
    ∙ ap (λ k. all_told (packets_in s) (packets_of (k ++ stamped at bytes))) (sym stands) ∙ ap (all_told (packets_in s)) (sym are) ∙ sym told)

pub packets_after : (s : List Symbol) (at : Moment) (bytes : List ℕ) (kept : List Stamped) (packets : List Packet)
    → kept ≡ rest_of (bytes_in s) → packets ≡ packets_of (kept ++ stamped at bytes) → packets_in s ++ packets ≡ packets_in (s ++ piece at bytes)
packets_after s at bytes kept packets stands are =
    ap (λ p. packets_in s ++ p) (are ∙ ap (λ k. packets_of (k ++ stamped at bytes)) stands ∙ ap (λ t. packets_of (rest_of (bytes_in s) ++ t)) (sym (bytes_of_piece at bytes)))
    ∙ sym (packets_join s (piece at bytes))

pub stream_after : (s : List Symbol) (at : Moment) (bytes : List ℕ) → bytes_in s ++ stamped at bytes ≡ bytes_in (s ++ piece at bytes)
stream_after s at bytes = ap (λ t. bytes_in s ++ t) (sym (bytes_of_piece at bytes)) ∙ sym (bytes_join s (piece at bytes))

pub edges_after : (s : List Symbol) (at : Moment) (bytes : List ℕ) → edges_in s ≡ edges_in (s ++ piece at bytes)
edges_after s at bytes = sym (append-nil (edges_in s)) ∙ ap (λ t. edges_in s ++ t) (sym (edges_of_piece at bytes)) ∙ sym (edges_join s (piece at bytes))

or_assoc : {X : Type 0} (a b c : Option X) → option_or (option_or a b) c ≡ option_or a (option_or b c)
or_assoc None b c = refl
or_assoc (Some x) b c = refl

or_none : {X : Type 0} (a : Option X) → option_or a None ≡ a
or_none None = refl
or_none (Some x) = refl

pub last_toff-append : (xs ys : List Body) → last_toff (xs ++ ys) ≡ option_or (last_toff ys) (last_toff xs)
last_toff-append [] ys = sym (or_none (last_toff ys))
last_toff-append (x ∷ xs) ys = ap (λ o. option_or o (toff_in x)) (last_toff-append xs ys) ∙ or_assoc (last_toff ys) (last_toff xs) (toff_in x)
