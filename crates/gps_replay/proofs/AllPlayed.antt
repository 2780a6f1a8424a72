-- Texts of whole lines that are all valid.
use Rattle.std.proofs.Common.{◌≡◌, ℕ, Bool, true, false, List, [], ◌∷◌, ◌++◌, length, map, fold, cond, nat_lt, Option, Some, None, option_map, refl, sym, ◌∙◌, ap, subst, append-nil}
use Rattle.std.proofs.lemmas.List.{map-append}
use Rattle.std.proofs.lemmas.Grind.{fold-append}
use Rattle.line_cut.specs.Limits.{most}
use Rattle.line_cut.specs.Lines.{has_feed, last_lines, lines, open_line}
use Rattle.line_cut.proofs.Splits.{line_lines, line_opens, lines_go_on, open_goes_on}
use Rattle.line_player.specs.Rules.{Effect, Rules, effect_within, text_in}
use Rattle.line_player.specs.Courses.{Course, course_of, ended_texts, gone_on, new_course, unless, whole_course, with_line}

abbrev pub course_behind : {X : Type 0} → Rules X → Course X → List ℕ → Course X
course_behind rules c bytes = fold (with_line rules) c (ended_texts rules bytes)

-- from each state of the first kind these lines lead to one of the second, and none is refused
pub record Runs {X : Type 0} (rules : Rules X) (from to : X → Type 0) (bytes : List ℕ) : Type 0 where
  pub closed : open_line bytes ≡ []
  pub goes : (c : Course X) → c.refused ≡ None → from c.state → (course_behind rules c bytes).refused ≡ None
  pub comes : (c : Course X) → c.refused ≡ None → from c.state → to (course_behind rules c bytes).state

pub no_lines : {X : Type 0} (rules : Rules X) (kind : X → Type 0) → Runs rules kind kind []
unfolding lines open_line
no_lines rules kind = record { closed = refl; goes = λ c none is. none; comes = λ c none is. is }

pub and_then : {X : Type 0} (rules : Rules X) (from between to : X → Type 0) (a b : List ℕ) → Runs rules from between a → Runs rules between to b
    → Runs rules from to (a ++ b)
and_then {X} rules from between to a b first second =
    let texts : ended_texts rules (a ++ b) ≡ ended_texts rules a ++ ended_texts rules b =
    ap (λ l. map (text_in rules.limit) l) (lines_go_on a b ∙ ap (λ o. lines a ++ lines (o ++ b)) first.closed)
    ∙ map-append (text_in rules.limit) (lines a) (lines b) in
    let both : (c : Course X) → course_behind rules c (a ++ b) ≡ course_behind rules (course_behind rules c a) b =
    λ c. ap (λ t. fold (with_line rules) c t) texts ∙ fold-append (with_line rules) c (ended_texts rules a) (ended_texts rules b) in
    record {
      closed = open_goes_on a b ∙ ap (λ o. open_line (o ++ b)) first.closed ∙ second.closed;
      goes = λ c none is. ap (λ d. d.refused) (both c) ∙ second.goes (course_behind rules c a) (first.goes c none is) (first.comes c none is);
      comes = λ c none is. subst (λ (d : Course X). to d.state) (sym (both c))
          (second.comes (course_behind rules c a) (first.goes c none is) (first.comes c none is));
    }

-- a line that is not refused leads to such a state
abbrev pub LeadsTo : {X : Type 0} → (X → Type 0) → Option (Effect X) → Type 0
LeadsTo to (Some effect) = to effect.state
LeadsTo to None = ⊥

made : {X : Type 0} (to : X → Type 0) (c : Course X) (effect : Option (Effect X)) → LeadsTo to effect
    → ((gone_on c effect).refused ≡ None) × to (gone_on c effect).state
made to c (Some effect) leads = (refl, leads)
made to c None leads = absurd leads

pub one_line : {X : Type 0} (rules : Rules X) (from to : X → Type 0) (text : List ℕ) → has_feed text ≡ false
    → text_in rules.limit (text ++ 10 ∷ []) ≡ text → nat_lt (most rules.limit) (length text) ≡ false
    → ((state : X) → from state → LeadsTo to (rules.effect state text)) → Runs rules from to (text ++ 10 ∷ [])
unfolding lines open_line effect_within
one_line {X} rules from to text plain bare short leads =
    let whole : lines (text ++ 10 ∷ []) ≡ (text ++ 10 ∷ []) ∷ [] = ap lines (sym (append-nil (text ++ 10 ∷ []))) ∙ line_lines text [] plain in
    let texts : ended_texts rules (text ++ 10 ∷ []) ≡ text ∷ [] =
    ap (λ l. map (text_in rules.limit) l) whole ∙ ap (λ t. t ∷ []) bare in
    let within : (state : X) → effect_within rules state text ≡ rules.effect state text = λ state. ap (λ b. cond b None (rules.effect state text)) short in
    let step : (c : Course X) → c.refused ≡ None → course_behind rules c (text ++ 10 ∷ []) ≡ gone_on c (rules.effect c.state text) =
    λ c none. ap (λ t. fold (with_line rules) c t) texts
    ∙ ap (λ r. unless r (gone_on c (effect_within rules c.state text)) c) none ∙ ap (gone_on c) (within c.state) in
    record {
      closed = ap open_line (sym (append-nil (text ++ 10 ∷ []))) ∙ line_opens text [];
      goes = λ c none is. ap (λ d. d.refused) (step c none) ∙ (made to c (rules.effect c.state text) (leads c.state is)).0;
      comes = λ c none is. subst (λ (d : Course X). to d.state) (sym (step c none)) (made to c (rules.effect c.state text) (leads c.state is)).1;
    }

pub all_played : {X : Type 0} (rules : Rules X) (from to : X → Type 0) (bytes : List ℕ) → Runs rules from to bytes → from rules.start
    → (whole_course rules bytes).refused ≡ None
all_played rules from to bytes runs start =
    ap (λ o. (course_of rules (ended_texts rules bytes ++ last_lines o)).refused) runs.closed
    ∙ ap (λ t. (course_of rules t).refused) (append-nil (ended_texts rules bytes))
    ∙ runs.goes (new_course rules) refl start
