use Rattle.std.proofs.Common.{◌≡◌, ◌<◌, ℕ, length, set, sym, subst, get_or, slice_get, Some, OnOk}
use Rattle.book_units.specs.Units.{UnitView}
use Rattle.replay_player.specs.Loads.{step_of}
use Rattle.replay_player.specs.UnitMonitorView.{UnitMonitorView, IsOf, after_load, words_beside}
use Rattle.replay_player.specs.Playing.{LoadsOne, BookStandsFor, ReplayBookView}
use Rattle.replay_player.specs.States.{State, MonitorState}
use Rattle.replay_player.proofs.Loading.{count_kept, loaded_act}
use Rattle.replay_player.proofs.replay_book.ReplayBook.load_one.Goals as goal

pub returns-clause-loaded : goal.returns-clause-loaded
returns-clause-loaded c =
    let L : ReplayBookView → Type 0 = λ v. OnOk c.push_step.result ((state : State) (t : MonitorState) → BookStandsFor v state → slice_get state.watches c.args.m ≡ Some t
    → LoadsOne c.args.m (record { devices = c.self.inside.devices; book = c.step_at-step.new.book; watchers = c.step_at-step.new.watchers.items }) c.args.out.now c.push_step.new.out state t) in
    let S : ℕ → Type 0 = λ k. (free : UnitMonitorView) (other : UnitView) → c.step_at-step.result ≡ step_of (words_beside (get_or c.self.inside.watchers.items k free) c.self.inside.book other) (get_or c.self.inside.watchers.items k free).reading in
    let B : ℕ → Type 0 = λ k. (free : UnitMonitorView) (other : UnitView) → c.step_at-step.new.watchers.items
    ≡ set c.self.inside.watchers.items k (after_load (words_beside (get_or c.self.inside.watchers.items k free) c.self.inside.book other) (get_or c.self.inside.watchers.items k free)) in
    subst L c.self.view_is
    (loaded_act c.push_step.result (record { devices = c.self.inside.devices; book = c.self.inside.book; watchers = c.self.inside.watchers.items }) c.step_at-step.new.book c.step_at-step.new.watchers.items c.args.m c.step_at-step.result c.args.out.now c.push_step.new.out
    c.step_at-step.ensures.unchanged (subst S c.from.ensures c.step_at-step.ensures.step) (subst B c.from.ensures c.step_at-step.ensures.becomes) c.push_step.ensures)

pub returns-clause-count : goal.returns-clause-count
returns-clause-count c =
    let B : ReplayBookView → Type 0 = λ v. c.args.m < length v.watchers in
    let O : ReplayBookView → Type 0 = λ v. (free : UnitMonitorView) → IsOf (get_or v.watchers c.args.m free) v.book in
    let C : ReplayBookView → Type 0 = λ v. length c.step_at-step.new.watchers.items ≡ length v.watchers in
    let N : ℕ → Type 0 = λ k. (free : UnitMonitorView) (other : UnitView) → c.step_at-step.new.watchers.items
    ≡ set c.self.inside.watchers.items k (after_load (words_beside (get_or c.self.inside.watchers.items k free) c.self.inside.book other) (get_or c.self.inside.watchers.items k free)) in
    subst C c.self.view_is (count_kept c.self.inside.watchers.items c.step_at-step.new.watchers.items c.self.inside.book c.args.m (subst B (sym c.self.view_is) c.requires.there) (subst O (sym c.self.view_is) c.requires.of)
    (subst N c.from.ensures c.step_at-step.ensures.becomes))
