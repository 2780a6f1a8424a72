use Rattle.std.proofs.Common.{[], Some, sym, ap, ◌∙◌}
use Rattle.gps_words.proofs.DeviceWords.{next_is_none, next_read}
use Rattle.gps_words.proofs.devices.device_words.Goals as goal

pub returns-in-None : goal.returns-in-None
returns-in-None c =
    sym (next_is_none (λ t. t.now) c.args.texts.now c.texts.text-index (record { ref_ptr = (0, 0); now = [] }) c.texts-test.true
    (sym c.in_ok-word.ensures ∙ c.in-None.is))

pub texts-preserved : goal.texts-preserved
texts-preserved c =
    next_read (λ t. t.now) c.args.texts.now c.texts.text-index (record { ref_ptr = (0, 0); now = [] }) c.texts.words.items c.in-Some.word
    c.texts-test.true c.texts.invariant (sym c.in_ok-word.ensures ∙ c.in-Some.is)
    ∙ ap (λ w. Some w) (sym c.in_ok-push-in-Some.ensures.items)
