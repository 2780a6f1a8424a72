-- A script grows by a second.
use Rattle.std.proofs.Common.{◌≡◌, ◌+◌, ◌*◌, ◌/◌, ◌%◌, ◌^◌, ◌<◌, ℕ, List, [], ◌++◌, sym, ap, ◌∙◌, append_assoc, add-one}
use Rattle.std.proofs.lemmas.List.{append-nil}
use Rattle.replay_script.specs.Workload.{decimals_at, head, number, second_lines, seconds, workload_of}

-- after the first t seconds
pub record Written (seed t : ℕ) (script : List ℕ) (drawn : ℕ) : Type 0 where
  pub script_is : script ≡ workload_of seed t
  pub drawn_is : drawn ≡ number seed t
  pub small : drawn < 2 ^ 31

pub none_yet : (seed drawn : ℕ) (before script : List ℕ) → before ≡ [] → script ≡ before ++ head → drawn ≡ seed % 2 ^ 31 → drawn < 2 ^ 31 → Written seed 0 script drawn
unfolding number seconds
none_yet seed drawn before script none is draws small = record { script_is = is ∙ ap (λ b. b ++ head) none ∙ sym (append-nil head); drawn_is = draws; small = small }

pub one_more : (seed t drawn later n : ℕ) (script longer : List ℕ) → Written seed t script drawn →
    later ≡ (1_103_515_245 * drawn + 12_345) % 2 ^ 31 → later < 2 ^ 31 → n ≡ later / 8 % 100_000 → longer ≡ script ++ second_lines t n → Written seed (t + 1) longer later
unfolding number seconds decimals_at
one_more seed t drawn later n script longer written draws small digits is =
    let drawn_is : later ≡ number seed (t + 1) =
    draws ∙ ap (λ d. (1_103_515_245 * d + 12_345) % 2 ^ 31) written.drawn_is ∙ sym (ap (number seed) (add-one t)) in
    record {
      script_is =
          is
          ∙ ap (λ s. s ++ second_lines t n) written.script_is
          ∙ ap (λ d. workload_of seed t ++ second_lines t d) (digits ∙ ap (λ d. d / 8 % 100_000) drawn_is)
          ∙ append_assoc head (seconds seed t) (second_lines t (decimals_at seed t))
          ∙ sym (ap (workload_of seed) (add-one t));
      drawn_is = drawn_is;
      small = small;
    }
