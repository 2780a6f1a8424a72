use Rattle.std.proofs.Common.{map, string_bytes}
use Rattle.gps_words.specs.Serve.{shown}
use Rattle.gps_words.proofs.Within.{words_within}
use Rattle.gps_words.proofs.serve.serve_asked.Goals as goal

pub returns-clause-within : goal.returns-clause-within
returns-clause-within c = words_within (map string_bytes c.args.words.now) (shown c.in_ok-options.options) c.in_ok-options.ensures.ok
