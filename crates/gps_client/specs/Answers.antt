-- What a reader answers, beside what is read by the definitions.
use Rattle.std.specs.Prelude.{◌≡◌, ℕ, List, Option, Some, None, Result, Ok, Err}
use Rattle.gps_client.specs.declared.fault.LineFault.{LineFault}
use Rattle.gps_client.specs.declared.fault.LineFault.TheVariants as fault

-- out of memory, nothing is known
abbrev pub Fails : {Y : Type 0} → LineFault → Option Y → Type 0
Fails fault.NotALine read = read ≡ None
Fails fault.NoMemory read = Unit {0}

-- the answer is what is read, with this rest
abbrev pub Gives : {X Y : Type 0} → (X → Y) → List ℕ → Result X LineFault → Option (Y × List ℕ) → Type 0
Gives view rest (Ok x) read = read ≡ Some (view x, rest)
Gives view rest (Err fault) read = Fails fault read

abbrev pub Reads : {X : Type 0} → Result X LineFault → Option X → Type 0
Reads (Ok x) read = read ≡ Some x
Reads (Err fault) read = Fails fault read
