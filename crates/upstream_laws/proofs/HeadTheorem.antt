-- The head byte by byte is the head in words.
use Rattle.std.proofs.Common.{◌≡◌, ◌≢◌, ◌≤◌, ◌<◌, ◌+◌, ◌==◌, ◌⊎◌, ◌↔◌, ℕ, suc, Bool, true, false, not, List, [], ◌∷◌, ◌++◌, Option, Some, None, length, take, refl, sym, ap, subst, ◌∙◌, inl, inr, arith}
use Rattle.std.specs.List.{AllByRecursion, concat}
use Rattle.std.proofs.lemmas.Bool.{and_from, cases_Bool, cases_lt, eqb-true}
use Rattle.std.proofs.lemmas.List.{append_assoc, append-nil, length-append}
use Rattle.std.proofs.lemmas.List.Folds.{concat-append, list_all-append}
use Rattle.json_line.specs.declared.names.Class.{Class}
use Rattle.json_line.specs.declared.names.Class.TheVariants as class
use Rattle.gps_client.specs.Objects.{class_in}
use Rattle.upstream_laws.specs.declared.stage.Stage.{Stage}
use Rattle.upstream_laws.specs.declared.stage.Stage.TheVariants.{Inside, Behind, Nowhere}
use Rattle.upstream_laws.specs.Head.{Stand, behind, behind_line, bounded, can_begin, fresh, more_head, most, step, taken, within_line}
use Rattle.upstream_laws.specs.Lines.{CannotBegin, HasBadLine, HasHead, HasNoHead, IsEarlier, IsHead, IsLine, IsTooLong, is_plain}
use Rattle.upstream_laws.proofs.Beginnings.{begin_of_class, begins_nothing, ended_bad, nothing_can, open_bad}
use Rattle.upstream_laws.proofs.Taking.{all_handed, behind-append, bounded_few, bounded_many, nothing_handed, stand_at, stays_behind, stays_nowhere, step_end, step_on, taken-append}
use Rattle.upstream_laws.proofs.Walking.{fall, head_is_open, head_is_taken, walk_earlier}

-- the bytes so far: whole lines, and the open one
record IsOpen (bytes begin : List ℕ) (count : ℕ) : Type 0 where
  earlier : List (List ℕ)
  part : List ℕ
  joined : bytes ≡ concat earlier ++ part
  others : AllByRecursion IsEarlier earlier
  plain : is_plain part ≡ true
  begins : begin ≡ take 18 part
  counted : count ≡ length bytes
  few : length bytes < most

-- what a stage says of the bytes
Says : Stage → List ℕ → List ℕ → ℕ → Type 0
Says Inside bytes begin count = IsOpen bytes begin count
Says Behind bytes begin count = HasHead bytes
Says Nowhere bytes begin count = HasBadLine bytes ⊎ (most ≤ length bytes)

SaysOf : Stand → List ℕ → Type 0
SaysOf stand bytes = Says stand.stage bytes stand.begin stand.count

all-append : {X : Type 0} (P : X → Type 0) (xs : List X) (x : X) → AllByRecursion P xs → P x → AllByRecursion P (xs ++ x ∷ [])
all-append P [] x all here = (here, tt)
all-append P (y ∷ xs) x all here = (all.0, all-append P xs x all.1 here)

plain-push : (text : List ℕ) (byte : ℕ) → is_plain text ≡ true → (byte == 10) ≡ false → is_plain (text ++ byte ∷ []) ≡ true
plain-push text byte plain on =
    list_all-append (λ b. not (b == 10)) text (byte ∷ []) ∙ and_from (is_plain text) (is_plain (byte ∷ [])) plain (rw on refl)

module _ (bytes : List ℕ) (byte : ℕ) (earlier : List (List ℕ)) (part : List ℕ)
    (joined : bytes ≡ concat earlier ++ part) (others : AllByRecursion IsEarlier earlier) (plain : is_plain part ≡ true) (few : length bytes < most) where
  long : length (bytes ++ byte ∷ []) ≡ length bytes + 1
  long = length-append bytes (byte ∷ [])

  pushed : bytes ++ byte ∷ [] ≡ concat earlier ++ (part ++ byte ∷ [])
  pushed = ap (λ t. t ++ byte ∷ []) joined ∙ append_assoc (concat earlier) part (byte ∷ [])

  bad_line : CannotBegin (part ++ byte ∷ []) → HasBadLine (bytes ++ byte ∷ [])
  bad_line bad =
      let whole : length (concat earlier ++ (part ++ byte ∷ [])) ≡ length (bytes ++ byte ∷ []) = ap length (sym pushed) in
      let same : length (bytes ++ byte ∷ []) ≡ length bytes + 1 = long in
      record {
        earlier = earlier;
        part = part ++ byte ∷ [];
        rest = [];
        joined = pushed ∙ sym (append-nil (concat earlier ++ (part ++ byte ∷ [])));
        others = others;
        bad = bad;
        short = omega arith;
      }

  -- the line ends
  at_end : byte ≡ 10 → (o : Option Class) → class_in (take 18 part) ≡ o → Says (bounded (length bytes + 1) (behind_line o)) (bytes ++ byte ∷ []) [] (length bytes + 1)
  unfolding Says
  at_end ends None is = inl (bad_line (rw ends (ended_bad part is)))
  at_end ends (Some c) is = of_class c is
    where
      line : (c : Class) → class_in (take 18 part) ≡ Some c → IsLine c (part ++ byte ∷ [])
      line c is = record { text = part; spelled = ap (λ b. part ++ b ∷ []) ends; begins = begin_of_class c part is; plain = plain }

      onward : (c : Class) → c ≢ class.Watch → class_in (take 18 part) ≡ Some c → Says (bounded (length bytes + 1) Inside) (bytes ++ byte ∷ []) [] (length bytes + 1)
      onward c other is = elim (cases_lt (length bytes + 1) most) [
        | inl less ↦
            let same : length (bytes ++ byte ∷ []) ≡ length bytes + 1 = long in
            rw (bounded_few (length bytes + 1) Inside less) record {
              earlier = earlier ++ (part ++ byte ∷ []) ∷ [];
              part = [];
              joined = pushed ∙ ap (λ t. concat earlier ++ t) (sym (append-nil (part ++ byte ∷ []))) ∙ sym (concat-append earlier ((part ++ byte ∷ []) ∷ []))
                  ∙ sym (append-nil (concat (earlier ++ (part ++ byte ∷ []) ∷ [])));
              others = all-append IsEarlier earlier (part ++ byte ∷ []) others record { kind = c; is_line = line c is; other = other };
              plain = refl;
              begins = refl;
              counted = sym long;
              few = omega arith;
            }
        | inr many ↦
            let same : length (bytes ++ byte ∷ []) ≡ length bytes + 1 = long in
            rw (bounded_many (length bytes + 1) many) (inr (omega arith))
      ]

      of_class : (c : Class) → class_in (take 18 part) ≡ Some c → Says (bounded (length bytes + 1) (behind_line (Some c))) (bytes ++ byte ∷ []) [] (length bytes + 1)
      of_class class.Watch is =
          let same : length (bytes ++ byte ∷ []) ≡ length bytes + 1 = long in
          record {
            head = bytes ++ byte ∷ [];
            rest = [];
            joined = sym (append-nil (bytes ++ byte ∷ []));
            is_head = record {
              earlier = earlier;
              last = part ++ byte ∷ [];
              joined = pushed;
              others = others;
              watch = line class.Watch is;
              short = omega arith;
            };
          }
      of_class class.Version is = onward class.Version (λ e. cc) is
      of_class class.Devices is = onward class.Devices (λ e. cc) is
      of_class class.Device is = onward class.Device (λ e. cc) is
      of_class class.Poll is = onward class.Poll (λ e. cc) is
      of_class class.Tpv is = onward class.Tpv (λ e. cc) is
      of_class class.Sky is = onward class.Sky (λ e. cc) is
      of_class class.Toff is = onward class.Toff (λ e. cc) is
      of_class class.Pps is = onward class.Pps (λ e. cc) is
      of_class class.Error is = onward class.Error (λ e. cc) is

  -- the line goes on
  at_more : (byte == 10) ≡ false → (can : Bool) → can_begin (take 18 (part ++ byte ∷ [])) ≡ can
      → Says (bounded (length bytes + 1) (within_line can)) (bytes ++ byte ∷ []) (take 18 (part ++ byte ∷ [])) (length bytes + 1)
  unfolding Says
  at_more on false is = inl (bad_line (open_bad (part ++ byte ∷ []) is))
  at_more on true is = elim (cases_lt (length bytes + 1) most) [
    | inl less ↦
        let same : length (bytes ++ byte ∷ []) ≡ length bytes + 1 = long in
        rw (bounded_few (length bytes + 1) Inside less) record {
          earlier = earlier;
          part = part ++ byte ∷ [];
          joined = pushed;
          others = others;
          plain = plain-push part byte plain on;
          begins = refl;
          counted = sym long;
          few = omega arith;
        }
    | inr many ↦
        let same : length (bytes ++ byte ∷ []) ≡ length bytes + 1 = long in
        rw (bounded_many (length bytes + 1) many) (inr (omega arith))
  ]

longer_head : (bytes : List ℕ) (byte : ℕ) → HasHead bytes → HasHead (bytes ++ byte ∷ [])
longer_head bytes byte h = record {
  head = h.head;
  rest = h.rest ++ byte ∷ [];
  joined = ap (λ t. t ++ byte ∷ []) h.joined ∙ append_assoc h.head h.rest (byte ∷ []);
  is_head = h.is_head;
}

longer_bad : (bytes : List ℕ) (byte : ℕ) → HasBadLine bytes → HasBadLine (bytes ++ byte ∷ [])
longer_bad bytes byte h = record {
  earlier = h.earlier;
  part = h.part;
  rest = h.rest ++ byte ∷ [];
  joined = ap (λ t. t ++ byte ∷ []) h.joined ∙ append_assoc (concat h.earlier ++ h.part) h.rest (byte ∷ []);
  others = h.others;
  bad = h.bad;
  short = h.short;
}

opened : (bytes begin : List ℕ) (count byte : ℕ) → IsOpen bytes begin count → SaysOf (more_head (stand_at Inside begin count) byte) (bytes ++ byte ∷ [])
unfolding SaysOf
opened bytes begin count byte o = rw (o.begins, o.counted) (elim (cases_Bool (byte == 10)) [
  | inl ends ↦
      let ten : byte ≡ 10 = eqb-true byte 10 ends in
      subst (λ s. SaysOf s (bytes ++ byte ∷ [])) (sym (ap (more_head (stand_at Inside (take 18 o.part) (length bytes))) ten ∙ step_end o.part (length bytes)))
      (at_end bytes byte o.earlier o.part o.joined o.others o.plain o.few ten (class_in (take 18 o.part)) refl)
  | inr on ↦
      subst (λ s. SaysOf s (bytes ++ byte ∷ [])) (sym (step_on o.part (length bytes) byte on))
      (at_more bytes byte o.earlier o.part o.joined o.others o.plain o.few on (can_begin (take 18 (o.part ++ byte ∷ []))) refl)
])

one_more : (stage : Stage) (begin : List ℕ) (count : ℕ) (bytes : List ℕ) (byte : ℕ)
    → Says stage bytes begin count → SaysOf (step (stand_at stage begin count) byte) (bytes ++ byte ∷ [])
unfolding Says SaysOf
one_more Inside begin count bytes byte says = opened bytes begin count byte says
one_more Behind begin count bytes byte says = longer_head bytes byte says
one_more Nowhere begin count bytes byte (inl bad) = inl (longer_bad bytes byte bad)
one_more Nowhere begin count bytes byte (inr many) = inr (omega (arith, length-append bytes (byte ∷ [])))

says_on : (stand : Stand) (before bytes : List ℕ) → SaysOf stand before → SaysOf (taken stand bytes) (before ++ bytes)
unfolding SaysOf
says_on stand before [] says = rw (append-nil before) says
says_on stand before (byte ∷ bytes) says =
    subst (λ t. SaysOf (taken stand (byte ∷ bytes)) t) (append_assoc before (byte ∷ []) bytes)
    (says_on (step stand byte) (before ++ byte ∷ []) bytes (one_more stand.stage stand.begin stand.count before byte says))

says_all : (bytes : List ℕ) → SaysOf (taken fresh bytes) bytes
unfolding Says SaysOf
says_all bytes = says_on fresh [] bytes record { earlier = []; part = []; joined = refl; others = tt; plain = refl; begins = refl; counted = refl; few = omega arith }

-- a good head, and what follows it
pub head_off : (head rest : List ℕ) → IsHead head → behind fresh (head ++ rest) ≡ rest
head_off head rest is =
    let front : List ℕ = concat is.earlier ++ (is.watch).text in
    let cut : head ≡ front ++ 10 ∷ [] = is.joined ∙ ap (λ t. concat is.earlier ++ t) (is.watch).spelled ∙ sym (append_assoc (concat is.earlier) (is.watch).text (10 ∷ [])) in
    let open_still : (taken fresh front).stage ≡ Inside = head_is_open head is in
    let none : behind fresh front ≡ [] = nothing_handed fresh front (λ e. let f : Inside ≡ Behind = sym open_still ∙ e in cc) in
    let last : behind (taken fresh front) (10 ∷ []) ≡ [] = one (taken fresh front).stage (taken fresh front) refl open_still in
    let all : behind fresh head ≡ [] = ap (behind fresh) cut ∙ behind-append fresh front (10 ∷ []) ∙ ap (λ t. t ++ behind (taken fresh front) (10 ∷ [])) none ∙ last in
    behind-append fresh head rest ∙ ap (λ t. t ++ behind (taken fresh head) rest) all
    ∙ ap (λ s. behind s rest) (head_is_taken head is) ∙ all_handed rest [] (length head)
  where
    one : (stage : Stage) (stand : Stand) → stand.stage ≡ stage → stand.stage ≡ Inside → behind stand (10 ∷ []) ≡ []
    one Inside stand is e = rw e refl
    one Behind stand is e = cc
    one Nowhere stand is e = cc

has_head : (bytes : List ℕ) → HasHead bytes → (taken fresh bytes).stage ≡ Behind
has_head bytes h =
    ap (λ s. s.stage) (ap (taken fresh) h.joined ∙ taken-append fresh h.head h.rest ∙ ap (λ s. taken s h.rest) (head_is_taken h.head h.is_head)
    ∙ stays_behind h.rest [] (length h.head))

has_bad : (bytes : List ℕ) → HasBadLine bytes → (taken fresh bytes).stage ≡ Nowhere
has_bad bytes h =
    ap (λ t. (taken fresh t).stage) h.joined
    ∙ ap (λ s. s.stage) (taken-append fresh (concat h.earlier ++ h.part) h.rest)
    ∙ on (taken fresh (concat h.earlier ++ h.part)) (ap (λ s. s.stage) (taken-append fresh (concat h.earlier) h.part) ∙ at_part h.part refl)
  where
    on : (stand : Stand) → stand.stage ≡ Nowhere → (taken stand h.rest).stage ≡ Nowhere
    on stand e =
        subst (λ s. (taken (stand_at s stand.begin stand.count) h.rest).stage ≡ Nowhere) (sym e)
        (ap (λ s. s.stage) (stays_nowhere h.rest stand.begin stand.count))

    at_part : (part : List ℕ) → part ≡ h.part → (taken (taken fresh (concat h.earlier)) h.part).stage ≡ Nowhere
    at_part [] e = absurd (nothing_can (subst CannotBegin (sym e) h.bad))
    at_part (byte ∷ part) e =
        let long : length (concat h.earlier ++ h.part) ≡ length (concat h.earlier) + length h.part = length-append (concat h.earlier) h.part in
        let some : suc (length part) ≡ length h.part = ap length e in
        let short : length (concat h.earlier ++ h.part) ≤ most = h.short in
        ap (λ s. (taken s h.part).stage) (walk_earlier h.earlier 0 h.others (omega arith))
        ∙ fall [] h.part (0 + length (concat h.earlier)) begins_nothing h.bad (omega arith)

pub ends_exactly : (bytes : List ℕ) → ((taken fresh bytes).stage ≡ Behind) ↔ HasHead bytes
unfolding Says SaysOf
ends_exactly bytes = (λ e. subst (λ s. Says s bytes (taken fresh bytes).begin (taken fresh bytes).count) e (says_all bytes), has_head bytes)

pub bad_exactly : (bytes : List ℕ) → ((taken fresh bytes).stage ≡ Nowhere) ↔ HasNoHead bytes
unfolding Says SaysOf
bad_exactly bytes = (λ e. there e (subst (λ s. Says s bytes (taken fresh bytes).begin (taken fresh bytes).count) e (says_all bytes)), back)
  where
    there : (taken fresh bytes).stage ≡ Nowhere → HasBadLine bytes ⊎ (most ≤ length bytes) → HasNoHead bytes
    there e (inl bad) = inl bad
    there e (inr many) = inr (many, λ h. let f : Nowhere ≡ Behind = sym e ∙ has_head bytes h in cc)

    by_stage : (s : Stage) → Says s bytes (taken fresh bytes).begin (taken fresh bytes).count → IsTooLong bytes → s ≡ Nowhere
    by_stage Inside open_still long = absurd (omega (arith, open_still.few, long.0))
    by_stage Behind head long = absurd (long.1 head)
    by_stage Nowhere says long = refl

    back : HasNoHead bytes → (taken fresh bytes).stage ≡ Nowhere
    back (inl bad) = has_bad bytes bad
    back (inr long) = by_stage (taken fresh bytes).stage (says_all bytes) long

-- without a head nothing is handed on
pub none_without_head : (bytes : List ℕ) → (HasHead bytes → ⊥) → behind fresh bytes ≡ []
none_without_head bytes never = nothing_handed fresh bytes (λ e. never ((ends_exactly bytes).0 e))
