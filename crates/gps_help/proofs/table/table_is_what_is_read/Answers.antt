use Rattle.gps_help.proofs.Agreement.{is_written_by_name, takes_what_is_accepted}
use Rattle.gps_help.proofs.table.table_is_what_is_read.Goals as goal

pub returns-clause-written : goal.returns-clause-written
returns-clause-written c = is_written_by_name

pub returns-clause-takes : goal.returns-clause-takes
returns-clause-takes c = takes_what_is_accepted
