-- One more read.
use Rattle.std.proofs.Common.{◌≡◌, ℕ, Bool, ◌||◌, false, List, [], ◌++◌, length, drop, fold, if◌then◌else◌, drop_at, ap, sym, ◌∙◌, refl}
use Rattle.std.proofs.Math.Seq.{take-length}
use Rattle.std.proofs.lemmas.List.Folds.{list_any-append}
use Rattle.std.proofs.lemmas.List.Sums.{fold-append}
use Rattle.gps_report.specs.declared.policy.Policy.{Policy}
use Rattle.watch_policy.specs.Policies.{opening_policy}
use Rattle.gps_command.specs.declared.request.RawCommand.{RawCommand}
use Rattle.gps_command.specs.Kept.{CommandCutterView, Gains}
use Rattle.gps_command.specs.Kept as input
use Rattle.gps_command.specs.Policies.{policy_with}
use Rattle.gps_command.specs.Requests.{requests, requests_from}
use Rattle.idle_client.specs.Idle.{Client, after_read, bytes_of, has_whole, is_whole, last_asked, policy_after_all}
use Rattle.idle_client.specs.Timing.{IdleTimerView, Leaves, StandsFor}

after_all : (bytes : List ℕ) → policy_after_all bytes ≡ fold policy_with opening_policy (requests bytes)
after_all bytes = ap (fold policy_with opening_policy) (take-length (requests bytes))

enabled_after : (bytes piece : List ℕ) (gained : List RawCommand) (before after : Bool)
    → Gains bytes piece gained → before ≡ (policy_after_all bytes).enable → Leaves before gained after
    → after ≡ (policy_after_all (bytes ++ piece)).enable
enabled_after bytes piece gained before after gains was leaves =
    sym (ap (λ (p : Policy). p.enable)
    (after_all (bytes ++ piece) ∙ ap (fold policy_with opening_policy) gains
    ∙ fold-append policy_with opening_policy (requests bytes) gained)
    ∙ leaves (fold policy_with opening_policy (requests bytes))
    (sym (was ∙ ap (λ (p : Policy). p.enable) (after_all bytes))))

-- the timer of a client that has sent nothing
pub fresh : (timer : IdleTimerView) (now : ℕ) → input.StandsFor timer.cutter []
    → timer.watches ≡ false → timer.asked ≡ false → timer.since ≡ now → timer.missed ≡ false
    → StandsFor timer (record { came = now; reads = [] })
unfolding bytes_of last_asked requests_from
fresh timer now cutter watches asked since missed = record {
  missed = missed;
  cutter = cutter;
  watches = watches;
  asked = asked;
  since = since;
}

takes : (client : Client) (piece : List ℕ) (at : ℕ) (old new : IdleTimerView) (gained : List RawCommand)
    → StandsFor old client
    → Gains (bytes_of client.reads) piece gained
    → input.StandsFor new.cutter (bytes_of client.reads ++ piece)
    → Leaves old.watches gained new.watches
    → new.missed ≡ false
    → new.asked ≡ (old.asked || has_whole gained)
    → new.since ≡ (if has_whole gained then at else old.since)
    → StandsFor new (after_read client piece at)
unfolding bytes_of last_asked
takes client piece at old new gained stands gains cutter leaves missed asked since =
    let before : List ℕ = bytes_of client.reads in
    let found : drop (length (requests before)) (requests (before ++ piece)) ≡ gained =
    ap (drop (length (requests before))) gains ∙ drop_at (requests before) gained (length (requests before)) refl in
    record {
      missed = missed;
      cutter = cutter;
      watches = enabled_after before piece gained old.watches new.watches gains stands.watches leaves;
      asked = asked ∙ ap (λ b. b || has_whole gained) stands.asked ∙ sym (list_any-append is_whole (requests before) gained)
          ∙ sym (ap has_whole gains);
      since = since ∙ ap (λ t. if has_whole gained then at else t) stands.since
          ∙ sym (ap (λ some. if has_whole some then at else last_asked client.came client.reads) found);
    }

-- the same, by what each call of `take` gave
pub taken : (client : Client) (piece : List ℕ) (at : ℕ) (old : IdleTimerView) (cutter next : CommandCutterView)
    (watches after asked : Bool) (since later : ℕ) (missed ended both : Bool) (gained first second : List RawCommand)
    → old ≡ record { cutter = cutter; watches = watches; asked = asked; since = since; missed = missed }
    → ((bytes : List ℕ) → input.StandsFor cutter bytes → Gains bytes piece gained × input.StandsFor next (bytes ++ piece))
    → first ≡ gained → Leaves watches first after
    → second ≡ gained → ended ≡ has_whole second
    → both ≡ (asked || ended)
    → later ≡ (if ended then at else since)
    → StandsFor old client
    → StandsFor (record { cutter = next; watches = after; asked = both; since = later; missed = false }) (after_read client piece at)
taken client piece at old cutter next watches after asked since later missed ended both gained first second is pushes first_is leaves second_is ended_is both_is later_is stands =
    let kept : cutter ≡ old.cutter = sym (ap (λ (v : IdleTimerView). v.cutter) is) in
    let pushed = pushes (bytes_of client.reads) (kept ∙ stands.cutter) in
    let whole : ended ≡ has_whole gained = ended_is ∙ ap has_whole second_is in
    let turned : Leaves old.watches gained after =
    λ policy was. ap (λ some. (fold policy_with policy some).enable) (sym first_is)
    ∙ leaves policy (was ∙ ap (λ (v : IdleTimerView). v.watches) is) in
    let new : IdleTimerView = record { cutter = next; watches = after; asked = both; since = later; missed = false } in
    takes client piece at old new gained stands pushed.0 pushed.1 turned refl
    (both_is ∙ ap (λ b. b || ended) (sym (ap (λ (v : IdleTimerView). v.asked) is)) ∙ ap (λ b. old.asked || b) whole)
    (later_is ∙ ap (λ b. if b then at else since) whole
    ∙ ap (λ t. if has_whole gained then at else t) (sym (ap (λ (v : IdleTimerView). v.since) is)))
