-- What is known of a head and of what follows it, if the source has modelled contents.
use Rattle.std.proofs.Common.{◌≡◌, ℕ, Bool, true, false, ◌&&◌, ◌==◌, if◌then◌else◌, ◌⊎◌, inl, inr, List, [], ◌++◌, take, Option, Some, None, refl, sym, ap, ◌∙◌, subst}
use Rattle.std.proofs.lemmas.Bool.{and_from, and_parts, eq-eqb, eqb-true}
use Rattle.std.proofs.lemmas.List.{append-nil}
use Rattle.std.specs.Str.{bytes_eq}
use Rattle.std.specs.Cmp.Lexicographic.{bytes_decides}
use Rattle.gps_outside.specs.Told.{Stream, Goes, Stays, Passes, IsAtEnd, MayLose}
use Rattle.gps_outside.specs.Reads.{Reads}
use Rattle.gps_outside.specs.ReadSteps.{TakesAll, TakesSome}
use Rattle.upstream_laws.specs.declared.stage.Stage.{Stage}
use Rattle.upstream_laws.specs.declared.stage.Stage.TheVariants.{Inside, Behind, Nowhere}
use Rattle.upstream_laws.specs.Head.{Stand, fresh, taken, behind}
use Rattle.gps_upstream.specs.declared.head.Head.{Head}
use Rattle.gps_upstream.specs.declared.head.Head.TheVariants as heads
use Rattle.gps_upstream.specs.declared.reading.HeadStep.{HeadStep}
use Rattle.gps_upstream.specs.declared.reading.HeadStep.TheVariants as steps
use Rattle.gps_upstream.specs.Reading.{Gives}
use Rattle.gps_upstream.specs.Calls.{answer_of, Took}
use Rattle.gps_upstream.specs.Upward.{IsOpen, same_stage, same_stand, head_at, left_by, handed, content_by}
use Rattle.gps_upstream.proofs.Heads.{taken_both, behind_both, none_nowhere}

stages_are : (a b : Stage) → same_stage a b ≡ true → a ≡ b
stages_are Inside Inside e = refl
stages_are Inside Behind e = cc
stages_are Inside Nowhere e = cc
stages_are Behind Inside e = cc
stages_are Behind Behind e = refl
stages_are Behind Nowhere e = cc
stages_are Nowhere Inside e = cc
stages_are Nowhere Behind e = cc
stages_are Nowhere Nowhere e = refl

stages_same : (a : Stage) → same_stage a a ≡ true
stages_same Inside = refl
stages_same Behind = refl
stages_same Nowhere = refl

joined : (t u : Stage) (x y : List ℕ) (m n : ℕ) → t ≡ u → x ≡ y → m ≡ n
    → ◌≡◌ {A = Stand} (record { stage = t; begin = x; count = m }) (record { stage = u; begin = y; count = n })
joined t u x y m n e f g = cc

pub stands_are : (a b : Stand) → same_stand a b ≡ true → a ≡ b
unfolding same_stand
stands_are a b e =
    let both : (same_stage a.stage b.stage && bytes_eq a.begin b.begin ≡ true) × ((a.count == b.count) ≡ true) = and_parts _ _ e in
    let first : (same_stage a.stage b.stage ≡ true) × (bytes_eq a.begin b.begin ≡ true) = and_parts _ _ both.0 in
    let at : a.stage ≡ b.stage = stages_are a.stage b.stage first.0 in
    let begin : a.begin ≡ b.begin = (bytes_decides a.begin b.begin).0 first.1 in
    let count : a.count ≡ b.count = eqb-true a.count b.count both.1 in
    joined a.stage b.stage a.begin b.begin a.count b.count at begin count

pub stands_same : (a : Stand) → same_stand a a ≡ true
unfolding same_stand
stands_same a =
    and_from _ _ (and_from _ _ (stages_same a.stage) ((bytes_decides a.begin a.begin).1 refl)) (eq-eqb a.count a.count refl)

told_by : (Q : Stream → Stream → Type 0) (b c : Bool) (x y : Stream)
    → (b ≡ true → (c ≡ true) × Q x y)
    → Goes Q (if b then Some x else None) (if c then Some y else None)
told_by Q true true x y f = (f refl).1
told_by Q true false x y f = let e = (f refl).0 in absurd (cc)
told_by Q false c x y f = tt

-- what happens to the source's content, and what this makes of what is handed on
pub told : (P Q : Stream → Stream → Type 0) (before after : Head) (old new : Stand) (c d : Option Stream)
    → ((x y : Stream) → P x y → old ≡ taken fresh x.taken → (new ≡ taken fresh y.taken) × Q (handed before old x) (handed after new y))
    → Goes P c d
    → Goes Q (content_by before old c) (content_by after new d)
told P Q before after old new None d on p = tt
told P Q before after old new (Some x) None on p = absurd p
told P Q before after old new (Some x) (Some y) on p =
    told_by Q (same_stand old (taken fresh x.taken)) (same_stand new (taken fresh y.taken)) (handed before old x) (handed after new y)
    (λ e. let both = on x y p (stands_are old (taken fresh x.taken) e) in (same_at new (taken fresh y.taken) both.0, both.1))
  where
    same_at : (a b : Stand) → a ≡ b → same_stand a b ≡ true
    same_at a b e = subst (λ (t : Stand). same_stand a t ≡ true) e (stands_same a)

streams_are : (a b c d : List ℕ) → a ≡ c → b ≡ d → ◌≡◌ {A = Stream} (record { taken = a; left = b }) (record { taken = c; left = d })
streams_are a b c d e f = cc

pub open_left : (at : Head) (bytes : List ℕ) → IsOpen at → left_by at bytes ≡ bytes
open_left heads.Start bytes is = absurd is
open_left heads.Reading bytes is = refl
open_left heads.Done bytes is = refl
open_left heads.Bad bytes is = absurd is
open_left heads.Unsent bytes is = absurd is

left_from : (s : Stand) (bytes : List ℕ) (at : Stage) → s.stage ≡ at → left_by (head_at at) (behind s bytes) ≡ behind s bytes
left_from s bytes Inside e = refl
left_from s bytes Behind e = refl
left_from s bytes Nowhere e = sym (none_nowhere s bytes e)

-- if the head is bad, nothing follows it
pub left_is : (at : Head) (s : Stand) (bytes : List ℕ) → at ≡ head_at s.stage → left_by at (behind s bytes) ≡ behind s bytes
left_is at s bytes e = subst (λ (h : Head). left_by h (behind s bytes) ≡ behind s bytes) (sym e) (left_from s bytes s.stage refl)

-- A read of a source by pieces, whose head is at `old` before it and at `new` after it.
module _ (before after : Head) (old new : Stand) (is_open : IsOpen before) (is_after : after ≡ head_at new.stage) (raw : List ℕ) (stand : new ≡ taken old raw) where
  stand_is : (x y : Stream) → Took raw x y → old ≡ taken fresh x.taken → new ≡ taken fresh y.taken
  stand_is x y took e = stand ∙ ap (λ (s : Stand). taken s raw) e ∙ sym (taken_both fresh x.taken raw) ∙ ap (λ l. taken fresh l) (sym took)

  taken_is : (x y : Stream) → Took raw x y → old ≡ taken fresh x.taken → (handed after new y).taken ≡ (handed before old x).taken ++ behind old raw
  taken_is x y took e =
      ap (λ l. behind fresh l) took ∙ behind_both fresh x.taken raw ∙ ap (λ (s : Stand). behind fresh x.taken ++ behind s raw) (sym e)

  left_on : (x y : Stream) (rest : List ℕ) → x.left ≡ raw ++ rest → (handed before old x).left ≡ behind old raw ++ behind new rest
  left_on x y rest next =
      open_left before (behind old x.left) is_open
      ∙ ap (λ l. behind old l) next
      ∙ behind_both old raw rest
      ∙ ap (λ (s : Stand). behind old raw ++ behind s rest) (sym stand)

  left_now : (y : Stream) → (handed after new y).left ≡ behind new y.left
  left_now y = left_is after new y.left is_after

  got : (bytes : List ℕ) → behind old raw ≡ bytes → (x y : Stream) → Passes raw x y → old ≡ taken fresh x.taken
      → (new ≡ taken fresh y.taken) × Passes bytes (handed before old x) (handed after new y)
  got bytes is x y p e = (
    stand_is x y p.joins e,
    record {
      next = left_on x y y.left p.next ∙ ap (λ l. l ++ behind new y.left) is ∙ ap (λ l. bytes ++ l) (sym (left_now y));
      joins = taken_is x y p.joins e ∙ ap (λ l. (handed before old x).taken ++ l) is;
    },
  )

  none_more : behind old raw ≡ [] → (x y : Stream) → Took raw x y → old ≡ taken fresh x.taken → (handed after new y).taken ≡ (handed before old x).taken
  none_more none x y took e = taken_is x y took e ∙ ap (λ l. (handed before old x).taken ++ l) none ∙ append-nil (handed before old x).taken

  left_same : behind old raw ≡ [] → (x y : Stream) → x.left ≡ raw ++ y.left → (handed after new y).left ≡ (handed before old x).left
  left_same none x y next = left_now y ∙ sym (left_on x y y.left next ∙ ap (λ l. l ++ behind new y.left) none)

  stayed : behind old raw ≡ [] → (x y : Stream) → Passes raw x y → old ≡ taken fresh x.taken
      → (new ≡ taken fresh y.taken) × (handed before old x ≡ handed after new y)
  stayed none x y p e = (
    stand_is x y p.joins e,
    streams_are _ _ _ _ (sym (none_more none x y p.joins e)) (sym (left_same none x y p.next)),
  )

  bad : behind old raw ≡ [] → (x y : Stream) → Passes raw x y → old ≡ taken fresh x.taken
      → (new ≡ taken fresh y.taken) × MayLose (handed before old x) (handed after new y)
  bad none x y p e = (
    stand_is x y p.joins e,
    record { same = none_more none x y p.joins e; lost = inl (left_same none x y p.next) },
  )

  ended : behind old raw ≡ [] → (x y : Stream) → TakesAll raw x y → old ≡ taken fresh x.taken
      → (new ≡ taken fresh y.taken) × IsAtEnd (handed before old x) (handed after new y)
  ended none x y p e =
      let next : x.left ≡ raw ++ y.left = p.all ∙ sym (append-nil raw) ∙ ap (λ l. raw ++ l) (sym p.none) in
      let nothing : (handed after new y).left ≡ [] = left_now y ∙ ap (λ l. behind new l) p.none in
      let same : handed before old x ≡ handed after new y =
      streams_are _ _ _ _ (sym (none_more none x y p.joins e)) (sym (left_same none x y next)) in
      (stand_is x y p.joins e, record { same = same; none = sym (left_same none x y next) ∙ nothing })

  lost : behind old raw ≡ [] → (x y : Stream) → TakesSome raw x y → old ≡ taken fresh x.taken
      → (new ≡ taken fresh y.taken) × MayLose (handed before old x) (handed after new y)
  lost none x y p e = (
    stand_is x y p.joins e,
    record {
      same = none_more none x y p.joins e;
      lost = elim p.kept as (λ _. ((handed after new y).left ≡ (handed before old x).left) ⊎ ((handed after new y).left ≡ [])) [
        | inl same ↦ inl (left_same none x y (p.next ∙ ap (λ l. raw ++ l) (sym same)))
        | inr gone ↦ inr (left_now y ∙ ap (λ l. behind new l) gone)
      ];
    },
  )

-- what a step of the reading says of modelled contents
pub reads : (step : HeadStep) (buffer : List ℕ) (before after : Head) (old new : Stand) (c d : Option Stream)
    → IsOpen before → after ≡ head_at new.stage
    → Gives step buffer old new c d
    → Reads (answer_of step) buffer (content_by before old c) (content_by after new d)
reads (steps.Got n) buffer before after old new c d is_open is_after g =
    told (Passes g.raw) (Passes (take n buffer)) before after old new c d (got before after old new is_open is_after g.raw g.stand (take n buffer) g.handed) g.moved
reads steps.Bad buffer before after old new c d is_open is_after g =
    told (Passes g.raw) MayLose before after old new c d (bad before after old new is_open is_after g.raw g.stand g.handed) g.moved
reads steps.End buffer before after old new c d is_open is_after g =
    told (TakesAll g.raw) IsAtEnd before after old new c d (ended before after old new is_open is_after g.raw g.stand g.handed) g.moved
reads steps.Quiet buffer before after old new c d is_open is_after g =
    told (Passes g.raw) Stays before after old new c d (stayed before after old new is_open is_after g.raw g.stand g.handed) g.moved
reads steps.Failed buffer before after old new c d is_open is_after g =
    told (TakesSome g.raw) MayLose before after old new c d (lost before after old new is_open is_after g.raw g.stand g.handed) g.moved
