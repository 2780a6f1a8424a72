use Rattle.std.proofs.Common.{◌≡◌, take}
use Rattle.gps_words.specs.Devices.{edges_of, inputs_of, names_of}
use Rattle.gps_words.proofs.devices.gather.Given as goal

abbrev pub invariant-words : goal.invariant-words
invariant-words l = record {
  names : l.lists.names.items ≡ names_of (take l.word-index l.words);
  inputs : l.lists.inputs.items ≡ inputs_of (take l.word-index l.words);
  edges : l.lists.edges.items ≡ edges_of l.words (names_of (take l.word-index l.words));
}
