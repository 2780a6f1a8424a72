use Rattle.std.proofs.Common.{◌∙◌, ◌≡◌, inl, inr, true, false, List, subst, sym}
use Rattle.std.specs.List.{list_all, list_any}
use Rattle.serve_workers.specs.declared.monitors.ReadingsDone.{ReadingsDone}
use Rattle.gps_serve.specs.Lost.{link_out_of_memory, run_out_of_memory}
use Rattle.gps_serve.specs.Statuses.{EachWhole}
use Rattle.gps_serve.proofs.Lost.{none_of_threads, some_of_threads}
use Rattle.gps_serve.proofs.scope.Ended.threads_out_of_memory.Goals as goal

pub returns-clause-whole : goal.returns-clause-whole
returns-clause-whole g c e =
    subst EachWhole c.as_slice-3.ensures.value (sym c.are_whole.ensures ∙ (none_of_threads c.args.self.now.door.no_memory c.any_run_out_of_memory.result c.any_link_out_of_memory.result c.are_whole.result
    c.either-readers.result c.either-threads.result c.either.result c.either-readers.ensures c.either-threads.ensures c.either.ensures e).3)

pub returns-clause-door : goal.returns-clause-door
returns-clause-door g c e =
    (none_of_threads c.args.self.now.door.no_memory c.any_run_out_of_memory.result c.any_link_out_of_memory.result c.are_whole.result
    c.either-readers.result c.either-threads.result c.either.result c.either-readers.ensures c.either-threads.ensures c.either.ensures e).0

pub returns-clause-runs : goal.returns-clause-runs
returns-clause-runs g c e =
    subst (λ runs. list_any run_out_of_memory runs ≡ false) c.as_slice.ensures.value (sym c.any_run_out_of_memory.ensures ∙ (none_of_threads c.args.self.now.door.no_memory c.any_run_out_of_memory.result c.any_link_out_of_memory.result c.are_whole.result
    c.either-readers.result c.either-threads.result c.either.result c.either-readers.ensures c.either-threads.ensures c.either.ensures e).1)

pub returns-clause-links : goal.returns-clause-links
returns-clause-links g c e =
    subst (λ runs. list_any link_out_of_memory runs ≡ false) c.as_slice-2.ensures.value (sym c.any_link_out_of_memory.ensures ∙ (none_of_threads c.args.self.now.door.no_memory c.any_run_out_of_memory.result c.any_link_out_of_memory.result c.are_whole.result
    c.either-readers.result c.either-threads.result c.either.result c.either-readers.ensures c.either-threads.ensures c.either.ensures e).2)

pub returns-clause-cause : goal.returns-clause-cause
returns-clause-cause g c e =
    elim (some_of_threads c.args.self.now.door.no_memory c.any_run_out_of_memory.result c.any_link_out_of_memory.result c.are_whole.result
    c.either-readers.result c.either-threads.result c.either.result c.either-readers.ensures c.either-threads.ensures c.either.ensures e) [
      | inl door ↦ inl door
      | inr (inl devices) ↦ inr (inl (subst (λ runs. list_any run_out_of_memory runs ≡ true) c.as_slice.ensures.value (sym c.any_run_out_of_memory.ensures ∙ devices)))
      | inr (inr (inl sessions)) ↦ inr (inr (inl (subst (λ runs. list_any link_out_of_memory runs ≡ true) c.as_slice-2.ensures.value (sym c.any_link_out_of_memory.ensures ∙ sessions))))
      | inr (inr (inr monitors)) ↦
          inr (inr (inr (subst (λ (watched : List ReadingsDone). list_all (λ (watch : ReadingsDone). watch.whole) watched ≡ false) c.as_slice-3.ensures.value
          (sym c.are_whole.ensures ∙ monitors))))
    ]
