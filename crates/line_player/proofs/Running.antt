-- The lines of a piece, run one after the other.
use Rattle.std.proofs.Common.{◌≡◌, ℕ, ◌+◌, ◌-◌, ◌⊎◌, inl, inr, false, List, [], ◌∷◌, ◌++◌, length, take, drop, Some, None, Ok, refl, sym, ◌∙◌, ap, subst, append_assoc, arith}
use Rattle.std.proofs.lemmas.Bool.{le-ltb}
use Rattle.std.proofs.lemmas.List.{append-nil, take-append-drop, take_rest, take_all, drop_all}
use Rattle.line_cut.specs.declared.limit.Limit.{Limit}
use Rattle.line_cut.specs.declared.limit.Limit.TheVariants.{Text, Whole}
use Rattle.line_cut.specs.declared.next.WholeLine.{WholeLine}
use Rattle.line_cut.specs.declared.next.Next.TheVariants as next
use Rattle.line_cut.specs.Limits.{is_too_long}
use Rattle.line_cut.specs.Lines.{lines, open_line}
use Rattle.line_cut.specs.Standing.{GivesLine, GivesTooLong, GivesNone, IsStep, LineCutterView, StandsFor, Steps, spelling}
use Rattle.line_player.specs.declared.plays_lines.LineStep.{LineStep}
use Rattle.line_player.specs.declared.plays_lines.LineStep.TheVariants.{Made, Refused}
use Rattle.line_player.specs.Rules.{Rules, effect_within, text_in}
use Rattle.line_player.specs.Courses.{Course, course_so_far, gone_on}
use Rattle.line_player.specs.LineSteps.{IsAt, RunsLines, StepDone, ended_course}
use Rattle.line_player.proofs.Courses.{effect_long, effect_short, ended_next, ended_same, next_line, refused_on, so_far_long}

-- So far this part of the piece was used, and what its lines write follows what the buffer held.
pub record UnderWay {X : Type 0} (rules : Rules X) (bytes piece rest : List ℕ) (cutter : LineCutterView) (count : ℕ) (stands : X → Type 0) (out out' : List ℕ) : Type 0 where
  pub used : List ℕ
  pub split : piece ≡ used ++ rest
  pub at : IsAt rules (bytes ++ used) cutter count stands
  pub more : List ℕ
  pub added : out' ≡ out ++ more
  pub wrote : (ended_course rules (bytes ++ used)).written ≡ (ended_course rules bytes).written ++ more

pub begun : {X : Type 0} (rules : Rules X) (bytes piece : List ℕ) (cutter : LineCutterView) (count : ℕ) (stands : X → Type 0) (out : List ℕ)
    → IsAt rules bytes cutter count stands → UnderWay rules bytes piece piece cutter count stands out out
begun rules bytes piece cutter count stands out at =
    record { used = []; split = refl; at = rw append-nil at; more = []; added = sym (append-nil out); wrote = simp append-nil }

pub none_long : (limit : Limit) → is_too_long limit [] ≡ false
none_long (Text n) = le-ltb n 0 (omega arith)
none_long (Whole n) = le-ltb n 0 (omega arith)

-- the rest after the first n bytes, as a slice shows it
rest_is : (n : ℕ) (rest : List ℕ) → rest ≡ take n rest ++ take (length rest - n) (drop n rest)
rest_is n rest = sym (rw take_rest (take-append-drop n rest))

-- the bytes so far, and n bytes of the rest after them
whole_is : {X : Type 0} (rules : Rules X) (bytes piece rest : List ℕ) (cutter : LineCutterView) (count : ℕ) (stands : X → Type 0) (out out' : List ℕ) (n : ℕ)
    → (u : UnderWay rules bytes piece rest cutter count stands out out')
    → bytes ++ piece ≡ ((bytes ++ u.used) ++ take n rest) ++ drop n rest
whole_is rules bytes piece rest cutter count stands out out' n u = rw (u.split, append_assoc, take-append-drop n rest, append_assoc)

pub line_made : {X : Type 0} (rules other : Rules X) (bytes piece rest text : List ℕ) (cutter cutter' : LineCutterView) (count : ℕ) (stands stands' : X → Type 0)
    (out out' out'' : List ℕ) (line : WholeLine) (n : ℕ) (became : LineStep)
    → UnderWay rules bytes piece rest cutter count stands out out' → Steps cutter cutter' rest (next.Line line n) → cutter'.limit ≡ cutter.limit
    → other ≡ rules → text ≡ text_in rules.limit (spelling line)
    → ((state : X) → stands state → StepDone (Ok became) other state text stands' out' out'') → became ≡ Made
    → UnderWay rules bytes piece (take (length rest - n) (drop n rest)) cutter' (count + 1) stands' out out''
line_made rules other bytes piece rest text cutter cutter' count stands stands' out out' out'' line n became u steps stays same is round made_so =
    let b : List ℕ = bytes ++ u.used in
    let step : IsStep cutter cutter' b rest (next.Line line n) = steps b u.at.cut in
    let g : GivesLine rules.limit b rest (spelling line) n = rw u.at.limit at step.gives in
    let c : Course _ = ended_course rules b in
    let t : StepDone (Ok Made) rules c.state text stands' out' out'' = rw (made_so, same) at (round c.state u.at.made) in
    let made : ended_course rules (b ++ take n rest) ≡ gone_on c (Some t.0) =
    ended_next rules b (b ++ take n rest) (spelling line) g.lines
    ∙ next_line rules c (text_in rules.limit (spelling line)) (Some t.0) u.at.none
    (effect_short rules c.state (spelling line) g.fits ∙ ap (rules.effect c.state) (sym is) ∙ t.1) in
    let whole : b ++ take n rest ≡ bytes ++ (u.used ++ take n rest) = append_assoc bytes u.used (take n rest) in
    record {
      used = u.used ++ take n rest;
      split = u.split ∙ rw append_assoc (ap (λ r. u.used ++ r) (rest_is n rest));
      at = subst (λ x. IsAt rules x cutter' (count + 1) stands') whole (record {
        limit = stays ∙ u.at.limit;
        cut = step.stands;
        short = ap (is_too_long rules.limit) g.opens ∙ none_long rules.limit;
        none = ap (λ x. x.refused) made;
        number = rw (made, u.at.number);
        made = subst stands' (ap (λ x. x.state) (sym made)) t.2;
      });
      more = u.more ++ t.0.written;
      added = t.3 ∙ ap (λ o. o ++ t.0.written) u.added ∙ append_assoc out u.more t.0.written;
      wrote = ap (λ x. (ended_course rules x).written) (sym whole) ∙ rw (made, u.wrote) (append_assoc _ u.more t.0.written);
    }

-- if the next line is refused
refused_there : {X : Type 0} (rules : Rules X) (bytes piece rest : List ℕ) (cutter : LineCutterView) (count : ℕ) (stands stands' : X → Type 0) (out out' out'' : List ℕ) (cutter' : LineCutterView)
    → (u : UnderWay rules bytes piece rest cutter count stands out out')
    → course_so_far rules (bytes ++ piece) ≡ gone_on (ended_course rules (bytes ++ u.used)) None
    → out'' ≡ out'
    → RunsLines (Ok Refused) rules bytes piece cutter' count stands' out out''
refused_there rules bytes piece rest cutter count stands stands' out out' out'' cutter' u is same =
    (ap (λ c. c.refused) is ∙ ap (λ k. Some (k + 1)) u.at.number, (u.more, same ∙ u.added, ap (λ c. c.written) is ∙ u.wrote))

-- a line that is refused once it was ended
ended_refused : {X : Type 0} (rules : Rules X) (bytes onward more line : List ℕ) → lines onward ≡ lines bytes ++ line ∷ []
    → (ended_course rules bytes).refused ≡ None → effect_within rules (ended_course rules bytes).state (text_in rules.limit line) ≡ None
    → course_so_far rules (onward ++ more) ≡ gone_on (ended_course rules bytes) None
ended_refused rules bytes onward more line is none effect =
    let c : Course _ = ended_course rules bytes in
    let refused : ended_course rules onward ≡ gone_on c None = ended_next rules bytes onward line is ∙ next_line rules c (text_in rules.limit line) None none effect in
    refused_on rules onward more (c.count + 1) (ap (λ x. x.refused) refused) ∙ refused

pub line_refused : {X : Type 0} (rules other : Rules X) (bytes piece rest text : List ℕ) (cutter cutter' : LineCutterView) (count : ℕ) (stands stands' : X → Type 0)
    (out out' out'' : List ℕ) (line : WholeLine) (n : ℕ) (became : LineStep)
    → UnderWay rules bytes piece rest cutter count stands out out' → Steps cutter cutter' rest (next.Line line n)
    → other ≡ rules → text ≡ text_in rules.limit (spelling line)
    → ((state : X) → stands state → StepDone (Ok became) other state text stands' out' out'') → became ≡ Refused
    → RunsLines (Ok Refused) rules bytes piece cutter' count stands' out out''
line_refused rules other bytes piece rest text cutter cutter' count stands stands' out out' out'' line n became u steps same is round refused_so =
    let b : List ℕ = bytes ++ u.used in
    let step : IsStep cutter cutter' b rest (next.Line line n) = steps b u.at.cut in
    let g : GivesLine rules.limit b rest (spelling line) n = rw u.at.limit at step.gives in
    let c : Course _ = ended_course rules b in
    let t : StepDone (Ok Refused) rules c.state text stands' out' out'' = rw (refused_so, same) at (round c.state u.at.made) in
    refused_there rules bytes piece rest cutter count stands stands' out out' out'' cutter' u
    (ap (course_so_far rules) (whole_is rules bytes piece rest cutter count stands out out' n u)
    ∙ ended_refused rules b (b ++ take n rest) (drop n rest) (spelling line) g.lines u.at.none
    (effect_short rules c.state (spelling line) g.fits ∙ ap (rules.effect c.state) (sym is) ∙ t.0))
    t.1

-- a line that is refused for its length
long_refused : {X : Type 0} (rules : Rules X) (bytes rest : List ℕ) (n : ℕ) → (ended_course rules bytes).refused ≡ None
    → (g : GivesTooLong rules.limit bytes rest n)
    → course_so_far rules ((bytes ++ take n rest) ++ drop n rest) ≡ gone_on (ended_course rules bytes) None
long_refused rules bytes rest n none g = go g.lines
  where
    line : List ℕ
    line = open_line bytes ++ take n rest

    onward : List ℕ
    onward = bytes ++ take n rest

    effect : effect_within rules (ended_course rules bytes).state (text_in rules.limit line) ≡ None
    effect = effect_long rules (ended_course rules bytes).state line g.long

    go : ((lines onward ≡ lines bytes ++ line ∷ []) × (open_line onward ≡ []))
        ⊎ ((n ≡ length rest) × (lines onward ≡ lines bytes) × (open_line onward ≡ line))
        → course_so_far rules (onward ++ drop n rest) ≡ gone_on (ended_course rules bytes) None
    go (inl ended) = ended_refused rules bytes onward (drop n rest) line ended.0 none effect
    go (inr still) =
        let nothing : drop n rest ≡ [] = drop_all n rest (omega (arith, still.0)) in
        rw (nothing, append-nil onward, so_far_long rules onward (rw still.2 g.long), still.2, still.1)
        (next_line rules (ended_course rules bytes) (text_in rules.limit line) None none effect)

pub too_long : {X : Type 0} (rules : Rules X) (bytes piece rest : List ℕ) (cutter cutter' : LineCutterView) (count : ℕ) (stands : X → Type 0)
    (out out' : List ℕ) (n : ℕ)
    → UnderWay rules bytes piece rest cutter count stands out out' → Steps cutter cutter' rest (next.TooLong n)
    → RunsLines (Ok Refused) rules bytes piece cutter' count stands out out'
too_long rules bytes piece rest cutter cutter' count stands out out' n u steps =
    let b : List ℕ = bytes ++ u.used in
    let step : IsStep cutter cutter' b rest (next.TooLong n) = steps b u.at.cut in
    let g : GivesTooLong rules.limit b rest n = rw u.at.limit at step.gives in
    refused_there rules bytes piece rest cutter count stands stands out out' out' cutter' u
    (ap (course_so_far rules) (whole_is rules bytes piece rest cutter count stands out out' n u) ∙ long_refused rules b rest n u.at.none g)
    refl

-- the open line is not too long if the rest brought nothing, or too little
still_short : (limit : Limit) (bytes rest : List ℕ) → is_too_long limit (open_line bytes) ≡ false → GivesNone limit bytes rest
    → is_too_long limit (open_line (bytes ++ rest)) ≡ false
still_short limit bytes [] short g = rw append-nil short
still_short limit bytes (c ∷ rest) short g = g.fits (omega arith)

pub all_run : {X : Type 0} (rules : Rules X) (bytes piece rest : List ℕ) (cutter cutter' : LineCutterView) (count : ℕ) (stands : X → Type 0)
    (out out' : List ℕ)
    → UnderWay rules bytes piece rest cutter count stands out out' → Steps cutter cutter' rest next.Used → cutter'.limit ≡ cutter.limit
    → RunsLines (Ok Made) rules bytes piece cutter' count stands out out'
all_run rules bytes piece rest cutter cutter' count stands out out' u steps stays =
    let b : List ℕ = bytes ++ u.used in
    let step : IsStep cutter cutter' b rest next.Used = steps b u.at.cut in
    let g : GivesNone rules.limit b rest = rw u.at.limit at step.gives in
    let whole : b ++ rest ≡ bytes ++ piece = append_assoc bytes u.used rest ∙ ap (λ p. bytes ++ p) (sym u.split) in
    let same : ended_course rules (b ++ rest) ≡ ended_course rules b = ended_same rules b (b ++ rest) g.lines in (
      subst (λ x. IsAt rules x cutter' count stands) whole (record {
        limit = stays ∙ u.at.limit;
        cut = subst (λ r. StandsFor cutter' (b ++ r)) (take_all (length rest) rest (omega arith)) step.stands;
        short = still_short rules.limit b rest u.at.short g;
        none = ap (λ x. x.refused) same ∙ u.at.none;
        number = ap (λ x. x.count) same ∙ u.at.number;
        made = subst stands (ap (λ x. x.state) (sym same)) u.at.made;
      }),
      (u.more, u.added, ap (λ x. (ended_course rules x).written) (sym whole) ∙ ap (λ x. x.written) same ∙ u.wrote),
    )
