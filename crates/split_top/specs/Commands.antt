-- The command table.
use Rattle.std.specs.Prelude.{◌≡◌, ℕ, List, [], ◌∷◌, codes}
use Rattle.input_commands.specs.declared.command.InputCommand.{InputCommand}
use Rattle.input_commands.specs.declared.command.InputCommand.TheVariants.{Solve, Report, Check, Weigh, Winner, CheckWinner}
use Rattle.search_workers.specs.declared.limits.TheConstants.{MOST_WORKERS}
use Rattle.split_top.specs.declared.command.Command.{Command}
use Rattle.split_top.specs.declared.command.Command.TheVariants.{Init, Serve, Dump, Trial, Audit, Read}
use Rattle.split_top.specs.declared.limits.TheConstants.{MOST_COUNT, MOST_ID, MOST_NUMBER, MOST_PORT}
use Rattle.split_top.specs.Words.{IsKey, IsNumber, IsSecret}

-- the word says a number of workers
abbrev pub IsWorkers : List ℕ → ℕ → Type 0
IsWorkers = IsNumber 1 MOST_WORKERS

-- the word says the number of a port
abbrev pub IsPort : List ℕ → ℕ → Type 0
IsPort = IsNumber 1 MOST_PORT

-- the words are the row of a command that reads an input
abbrev pub NamesReading : List (List ℕ) → InputCommand → Type 0
NamesReading words (Solve workers) = (word : List ℕ) × (words ≡ codes "solve" ∷ word ∷ []) × IsWorkers word workers
NamesReading words (Report workers) = (word : List ℕ) × (words ≡ codes "report" ∷ word ∷ []) × IsWorkers word workers
NamesReading words Check = words ≡ codes "check" ∷ []
NamesReading words Weigh = words ≡ codes "weigh" ∷ []
NamesReading words Winner = words ≡ codes "winner" ∷ []
NamesReading words CheckWinner = words ≡ codes "checkwinner" ∷ []

-- the words are the command's row of the table
abbrev pub Names : List (List ℕ) → Command → Type 0
Names words (Init secret) = (word : List ℕ) × (words ≡ codes "init" ∷ word ∷ []) × IsSecret word secret
Names words (Serve port workers count) =
    (first second third : List ℕ) × (words ≡ codes "serve" ∷ first ∷ second ∷ third ∷ []) × IsPort first port × IsWorkers second workers × IsNumber 1 MOST_COUNT third count
Names words Dump = words ≡ codes "dump" ∷ []
Names words (Trial number workers) = (first second : List ℕ) × (words ≡ codes "trial" ∷ first ∷ second ∷ []) × IsNumber 0 MOST_NUMBER first number × IsWorkers second workers
Names words (Audit port asked) =
    (first second third : List ℕ) × (words ≡ codes "audit" ∷ first ∷ second ∷ third ∷ []) × IsPort first port × IsNumber 1 MOST_ID second asked.id × IsKey third asked.key
Names words (Read reads) = NamesReading words reads

-- the words are a row of `serve`
abbrev pub AskToServe : List (List ℕ) → Type 0
AskToServe words = (port workers count : ℕ) × Names words (Serve port workers count)

-- the words aren't a row of the command table
abbrev pub AreNoRow : List (List ℕ) → Type 0
AreNoRow words = (command : Command) → Names words command → ⊥
