use Rattle.std.proofs.Common.{Some}
use Rattle.gps_serve.specs.Told.{devices_in}
use Rattle.gps_world.specs.MemoryWorlds.{bytes_at}
use Rattle.library_tests.proofs.due_sinks.a_client_is_written_just_what_it_is_due.Given as goal

abbrev pub ghosts-serve_due : goal.ghosts-serve_due
ghosts-serve_due g a = record { devices = devices_in a.plan (bytes_at (λ source. Some source.stream) a.places.items) }
