-- What each session of a script has after any of its lines.
use Rattle.std.proofs.Common.{◌≡◌, ◌⊎◌, ℕ, ◌+◌, ◌-◌, ◌<◌, ◌≤◌, Bool, true, false, cond, List, [], ◌∷◌, ◌++◌, length, take, fold, Option, Some, None, option_map, refl, sym, ap, ◌∙◌, subst, append-nil, append_assoc, arith, le_refl, nat_lt}
use Rattle.std.specs.Prelude.{option_and_then, slice_get}
use Rattle.std.proofs.Math.Seq.{take-append_seam}
use Rattle.std.proofs.lemmas.List.{length-append, take_all}
use Rattle.line_cut.specs.Limits.{most}
use Rattle.line_player.specs.Rules.{Effect, Rules, effect_within}
use Rattle.line_player.specs.Courses.{Course, gone_on, with_line}
use Rattle.line_player.proofs.Courses.{course_on, next_line, stops}
use Rattle.session_core.specs.declared.mark.Close.TheVariants.{HungUp}
use Rattle.book_log.specs.History.{history}
use Rattle.replay_script.specs.Events.{event_in}
use Rattle.replay_script.specs.declared.event.ScriptEvent.{ScriptEvent}
use Rattle.replay_script.specs.declared.event.ScriptEvent.TheVariants.{Hang}
use Rattle.replay_player.specs.Clients.{Client, opened, told}
use Rattle.replay_player.specs.Effects.{EventEffect, effect}
use Rattle.replay_player.specs.States.{State}
use Rattle.gps_replay.specs.Run.{effect_of, of_line, rules_of}
use Rattle.replay_laws.specs.Accounts.{Comes, HasCauseIf, IsHeard, course_after, lines_run, log_of, state_after}
use Rattle.replay_laws.specs.Readings.{readings_of}
use Rattle.replay_laws.proofs.Printed.{Reaches, lines_reach}
use Rattle.replay_laws.proofs.Sessions.{Told}
use Rattle.replay_laws.proofs.Steps.{Step, event_step}
use Rattle.replay_laws.proofs.Answering.{no_element}
use Rattle.replay_laws.proofs.Answered.{Attends, Plays, next_plays}

-- ---- any lines

-- what a line does that is not refused
record Made (queue : ℕ) (state : State) (text : List ℕ) (e : Effect State) : Type 0 where
  event : ScriptEvent
  event_is : event_in text ≡ Some event
  does : EventEffect
  made : effect queue state event ≡ Some does
  is : does.state ≡ e.state

made_by : (queue : ℕ) (state : State) (text : List ℕ) (e : Effect State) → effect_within (rules_of queue) state text ≡ Some e → Made queue state text e
unfolding effect_within
made_by queue state text e is = by_length (nat_lt (most (rules_of queue).limit) (length text)) is
  where
    by_event : (o : Option ScriptEvent) → event_in text ≡ o → option_map of_line (option_and_then (effect queue state) o) ≡ Some e → Made queue state text e
    by_event None there is = absurd (cc)
    by_event (Some event) there is = by_effect (effect queue state event) refl is
      where
        by_effect : (o : Option EventEffect) → effect queue state event ≡ o → option_map of_line o ≡ Some e → Made queue state text e
        by_effect None made is = absurd (cc)
        by_effect (Some x) made is =
            let same : of_line x ≡ e = cc in
            record { event = event; event_is = there; does = x; made = made; is = ap (λ (y : Effect State). y.state) same }

    by_length : (b : Bool) → cond b None (effect_of queue state text) ≡ Some e → Made queue state text e
    by_length true is = absurd (cc)
    by_length false is = by_event (event_in text) refl is

new_plays : (queue : ℕ) → Plays queue []
new_plays queue =
    record {
      refused = refl;
      count = refl;
      log = refl;
      few = omega arith;
      fresh = λ e. refl;
      each = λ s c there. absurd (cc);
      unsent = λ s past. refl;
      unhung = λ s past before line. no_element before line.text line.after line.lines;
    }

-- the lines that are run of some lines
record Ran (queue : ℕ) (texts : List (List ℕ)) : Type 0 where
  plays : Plays queue (lines_run queue texts)
  state : state_after queue texts ≡ state_after queue (lines_run queue texts)

ran : (queue : ℕ) (done rest : List (List ℕ)) → Plays queue done → Ran queue (done ++ rest)
ran queue done [] plays =
    let all : lines_run queue done ≡ done = ap (λ (n : ℕ). take n done) plays.count ∙ take_all (length done) done (le_refl (length done)) in
    subst (Ran queue) (sym (append-nil done))
    (record { plays = subst (Plays queue) (sym all) plays; state = ap (state_after queue) (sym all) })
ran queue done (text ∷ rest) plays = by_effect (effect_within (rules_of queue) (state_after queue done) text) refl (λ more. ran queue (done ++ text ∷ []) rest more)
  where
    rules : Rules State
    rules = rules_of queue

    course : Course State
    course = course_after queue done

    by_effect : (o : Option (Effect State)) → effect_within (rules_of queue) (state_after queue done) text ≡ o
        → (Plays queue (done ++ text ∷ []) → Ran queue ((done ++ text ∷ []) ++ rest)) → Ran queue (done ++ text ∷ rest)
    by_effect None is go_on =
        let stop : Course State = gone_on course None in
        let step : with_line rules course text ≡ stop = next_line rules course text None plays.refused is in
        let last : course_after queue (done ++ text ∷ rest) ≡ stop =
        course_on rules done (text ∷ rest)
        ∙ ap (λ (x : Course State). fold (with_line rules) x rest) step
        ∙ stops rules stop (course.count + 1) rest refl in
        let run : lines_run queue (done ++ text ∷ rest) ≡ done =
        ap (λ (x : Course State). take x.count (done ++ text ∷ rest)) last
        ∙ ap (λ (n : ℕ). take n (done ++ text ∷ rest)) plays.count
        ∙ take-append_seam done (text ∷ rest) in
        record { plays = subst (Plays queue) (sym run) plays; state = ap (λ (x : Course State). x.state) last ∙ ap (state_after queue) (sym run) }
    by_effect (Some e) is go_on =
        let next : Course State = gone_on course (Some e) in
        let step : with_line rules course text ≡ next = next_line rules course text (Some e) plays.refused is in
        let after : course_after queue (done ++ text ∷ []) ≡ next = course_on rules done (text ∷ []) ∙ step in
        let m : Made queue (state_after queue done) text e = made_by queue (state_after queue done) text e is in
        let now : state_after queue (done ++ text ∷ []) ≡ m.does.state = ap (λ (x : Course State). x.state) after ∙ sym m.is in
        let moves : Step queue m.event (state_after queue done) m.does.state = event_step queue m.event (state_after queue done) m.does m.made plays.fresh in
        let long : length (done ++ text ∷ []) ≡ length done + 1 = length-append done (text ∷ []) in
        let count : (course_after queue (done ++ text ∷ [])).count ≡ course.count + 1 = ap (λ (x : Course State). x.count) after in
        let more : Plays queue (done ++ text ∷ []) =
        next_plays queue done text m.event m.does.state plays m.event_is now moves (ap (λ (x : Course State). x.refused) after) (omega (arith, long, count, plays.count)) in
        subst (Ran queue) (append_assoc done (text ∷ []) rest) (go_on more)

all_ran : (queue : ℕ) (texts : List (List ℕ)) → Ran queue texts
all_ran queue texts = ran queue [] texts (new_plays queue)

-- ---- the laws

pub log_made : (queue : ℕ) (texts : List (List ℕ)) → (state_after queue texts).log ≡ log_of (lines_run queue texts)
log_made queue texts = let r : Ran queue texts = all_ran queue texts in ap (λ (x : State). x.log) r.state ∙ r.plays.log

attended : (queue : ℕ) (texts : List (List ℕ)) (s : ℕ) (c : Client) → slice_get (state_after queue texts).clients s ≡ Some c
    → Attends queue (state_after queue texts).names (state_after queue texts).log (lines_run queue texts) s c
attended queue texts s c there =
    let r : Ran queue texts = all_ran queue texts in
    subst (λ (x : State). slice_get x.clients s ≡ Some c → Attends queue x.names x.log (lines_run queue texts) s c) (sym r.state) (r.plays.each s c) there

pub heard : (queue : ℕ) (texts : List (List ℕ)) (s : ℕ) (c : Client) → slice_get (state_after queue texts).clients s ≡ Some c
    → IsHeard queue (state_after queue texts).names (state_after queue texts).log (lines_run queue texts) s c
heard queue texts s c there =
    let a : Attends queue (state_after queue texts).names (state_after queue texts).log (lines_run queue texts) s c = attended queue texts s c there in
    let written : Reaches (readings_of queue texts) [] (course_after queue texts) = lines_reach queue texts in
    let told_is : Told (state_after queue texts).names (state_after queue texts).log written.all s c = written.wrote.sessions.told s c there in
    record {
      opened = a.opened;
      asked = a.hears.asked;
      answers = a.answers;
      few = a.hears.few;
      whole = a.hears.whole;
      order = told_is.inside.order;
    }

pub closed_for : (queue : ℕ) (texts : List (List ℕ)) (s : ℕ) (c : Client) → slice_get (state_after queue texts).clients s ≡ Some c
    → HasCauseIf queue (state_after queue texts).names (state_after queue texts).log (lines_run queue texts) s c c.run.closing
closed_for queue texts s c there = (attended queue texts s c there).cause

pub hung_up : (queue : ℕ) (texts before : List (List ℕ)) (s : ℕ) (c : Client) → slice_get (state_after queue texts).clients s ≡ Some c
    → Comes (lines_run queue texts) before (Hang s) → c.run.closing ≡ Some (length (history (log_of before)), HungUp)
hung_up queue texts before s c there line = (attended queue texts s c there).hung before line

pub has_stretch : (queue : ℕ) (texts : List (List ℕ)) (s : ℕ) (c : Client) → slice_get (state_after queue texts).clients s ≡ Some c → 1 ≤ length c.run.stretches
has_stretch queue texts s c there = (attended queue texts s c there).hears.some

pub names_few : (queue : ℕ) (texts : List (List ℕ)) → length (state_after queue texts).names ≤ 8
names_few queue texts = let r : Ran queue texts = all_ran queue texts in subst (λ (x : State). length x.names ≤ 8) (sym r.state) r.plays.few
