use Rattle.std.proofs.Common.{◌≡◌, Some, map, take}
use Rattle.gps_words.specs.Devices.{words_in}
use Rattle.gps_words.proofs.devices.device_words.Given as goal

abbrev pub invariant-texts : goal.invariant-texts
invariant-texts l = words_in (map (λ t. t.now) (take l.text-index l.texts)) ≡ Some l.words.items
