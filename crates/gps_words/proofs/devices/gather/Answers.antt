use Rattle.std.proofs.Common.{◌++◌, ◌∙◌, ap, sym, take, take_all}
use Rattle.gps_words.specs.Devices.{edges_of, input_of, inputs_of, name_of, names_of}
use Rattle.gps_words.specs.declared.device.DeviceWord.{DeviceWord}
use Rattle.gps_words.proofs.DeviceWords.{edges_join, flat_next}
use Rattle.gps_words.proofs.devices.gather.Goals as goal

pub words-preserved : goal.words-preserved
words-preserved c =
    let words = c.args.words.now in
    let i = c.words.word-index in
    let word = c.word-item.result in
    let more = name_of word word.target in
    let names = flat_next (λ (w : DeviceWord). name_of w w.target) words i word c.words-test.true c.word-item.is in
    record {
      names = c.in_ok-add.ensures.names ∙ ap (λ l. l ++ more) c.words.invariant.names ∙ sym names;
      inputs = c.in_ok-add.ensures.inputs ∙ ap (λ l. l ++ input_of word.target) c.words.invariant.inputs
          ∙ sym (flat_next (λ (w : DeviceWord). input_of w.target) words i word c.words-test.true c.word-item.is);
      edges = c.in_ok-add.ensures.edges ∙ ap (λ l. l ++ edges_of words more) c.words.invariant.edges
          ∙ sym (edges_join words (names_of (take i words)) more) ∙ ap (edges_of words) (sym names);
    }

pub returns-clause-names : goal.returns-clause-names
returns-clause-names c = c.words.invariant.names ∙ ap names_of (take_all c.words.word-index c.args.words.now c.words-test.false)

pub returns-clause-inputs : goal.returns-clause-inputs
returns-clause-inputs c = c.words.invariant.inputs ∙ ap inputs_of (take_all c.words.word-index c.args.words.now c.words-test.false)

pub returns-clause-edges : goal.returns-clause-edges
returns-clause-edges c =
    let words = c.args.words.now in
    c.words.invariant.edges ∙ ap (λ l. edges_of words (names_of l)) (take_all c.words.word-index words c.words-test.false)
