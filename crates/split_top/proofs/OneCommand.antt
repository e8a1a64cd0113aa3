-- The words name at most one command.
use Rattle.std.proofs.Common.{◌≡◌, ◌≢◌, ℕ, ◌<◌, ◌+◌, ◌*◌, ◌^◌, List, [], ◌∷◌, length, codes, refl, sym, ap, ◌∙◌, subst, arith}
use Rattle.std.proofs.lemmas.Fmt.{decimal_injective}
use Rattle.input_commands.specs.declared.command.InputCommand.{InputCommand}
use Rattle.input_commands.specs.declared.command.InputCommand.TheVariants.{Solve, Report, Check, Weigh, Winner, CheckWinner}
use Rattle.remote_check.specs.declared.request.Words.{Words}
use Rattle.split_top.specs.Commands.{Names, NamesReading}
use Rattle.split_top.specs.Words.{IsKey, IsNumber, IsSecret}
use Rattle.split_top.specs.declared.command.Command.{Command}
use Rattle.split_top.specs.declared.command.Command.TheVariants.{Init, Serve, Dump, Trial, Audit, Read}

-- a number of the first two letters and the length, which tells the commands' names apart
mark : List ℕ → ℕ
mark [] = 0
mark (first ∷ []) = 0
mark (first ∷ second ∷ rest) = first + 256 * second + 65536 * length rest

first_mark : List (List ℕ) → ℕ
first_mark [] = 0
first_mark (name ∷ rest) = mark name

reading_mark : InputCommand → ℕ
reading_mark (Solve workers) = mark (codes "solve")
reading_mark (Report workers) = mark (codes "report")
reading_mark Check = mark (codes "check")
reading_mark Weigh = mark (codes "weigh")
reading_mark Winner = mark (codes "winner")
reading_mark CheckWinner = mark (codes "checkwinner")

command_mark : Command → ℕ
command_mark (Init secret) = mark (codes "init")
command_mark (Serve port workers count) = mark (codes "serve")
command_mark Dump = mark (codes "dump")
command_mark (Trial number workers) = mark (codes "trial")
command_mark (Audit port asked) = mark (codes "audit")
command_mark (Read reads) = reading_mark reads

is_reading_mark : (words : List (List ℕ)) (reads : InputCommand) → NamesReading words reads → first_mark words ≡ reading_mark reads
unfolding reading_mark first_mark
is_reading_mark words (Solve workers) row = ap first_mark row.1
is_reading_mark words (Report workers) row = ap first_mark row.1
is_reading_mark words Check row = ap first_mark row
is_reading_mark words Weigh row = ap first_mark row
is_reading_mark words Winner row = ap first_mark row
is_reading_mark words CheckWinner row = ap first_mark row

is_mark : (words : List (List ℕ)) (command : Command) → Names words command → first_mark words ≡ command_mark command
unfolding command_mark first_mark
is_mark words (Init secret) row = ap first_mark row.1
is_mark words (Serve port workers count) row = ap first_mark row.3
is_mark words Dump row = ap first_mark row
is_mark words (Trial number workers) row = ap first_mark row.2
is_mark words (Audit port asked) row = ap first_mark row.3
is_mark words (Read reads) row = is_reading_mark words reads row

-- no command that reads an input has the name of another
apart : (reads : InputCommand) → (mark (codes "init") ≢ reading_mark reads) × (mark (codes "serve") ≢ reading_mark reads) × (mark (codes "dump") ≢ reading_mark reads) × (mark (codes "trial") ≢ reading_mark reads) × (mark (codes "audit") ≢ reading_mark reads)
unfolding mark reading_mark
apart (Solve workers) = ((λ e. omega (arith, e)), (λ e. omega (arith, e)), (λ e. omega (arith, e)), (λ e. omega (arith, e)), (λ e. omega (arith, e)))
apart (Report workers) = ((λ e. omega (arith, e)), (λ e. omega (arith, e)), (λ e. omega (arith, e)), (λ e. omega (arith, e)), (λ e. omega (arith, e)))
apart Check = ((λ e. omega (arith, e)), (λ e. omega (arith, e)), (λ e. omega (arith, e)), (λ e. omega (arith, e)), (λ e. omega (arith, e)))
apart Weigh = ((λ e. omega (arith, e)), (λ e. omega (arith, e)), (λ e. omega (arith, e)), (λ e. omega (arith, e)), (λ e. omega (arith, e)))
apart Winner = ((λ e. omega (arith, e)), (λ e. omega (arith, e)), (λ e. omega (arith, e)), (λ e. omega (arith, e)), (λ e. omega (arith, e)))
apart CheckWinner = ((λ e. omega (arith, e)), (λ e. omega (arith, e)), (λ e. omega (arith, e)), (λ e. omega (arith, e)), (λ e. omega (arith, e)))

-- a word says at most one number, key or secret
one_number : (least most : ℕ) → most < 2 ^ 64 → (word other : List ℕ) → word ≡ other → (m n : ℕ) → IsNumber least most word m → IsNumber least most other n → m ≡ n
one_number least most fits word other same m n a b = let x = a.1 in let y = b.1 in
    decimal_injective m n (omega (arith, x, fits)) (omega (arith, y, fits)) (sym a.2 ∙ same ∙ b.2)

one_secret : (word other : List ℕ) → word ≡ other → (secret another : List ℕ) → IsSecret word secret → IsSecret other another → secret ≡ another
one_secret word other same secret another a b = let is = sym a ∙ subst (λ (said : List ℕ). IsSecret said another) (sym same) b in cc is

one_key : (word other : List ℕ) → word ≡ other → (key another : List ℕ) → IsKey word key → IsKey other another → key ≡ another
one_key word other same key another a b = sym a.0 ∙ same ∙ b.0

abbrev words_of : ℕ → List ℕ → Words
words_of id key = record { id = id; key = key }

one_asked : (asked other : Words) → asked.id ≡ other.id → asked.key ≡ other.key → asked ≡ other
one_asked asked other ids keys = ap (λ id. words_of id asked.key) ids ∙ ap (words_of other.id) keys

one_reading : (words : List (List ℕ)) (reads other : InputCommand) → reading_mark reads ≡ reading_mark other → NamesReading words reads → NamesReading words other → reads ≡ other
unfolding mark reading_mark
one_reading words (Solve workers) (Solve others) e row another = let same = sym row.1 ∙ another.1 in ap Solve (one_number 1 _ (omega arith) row.0 another.0 (cc same) workers others row.2 another.2)
one_reading words (Solve workers) (Report workers_too) e row another = absurd (omega (arith, e))
one_reading words (Solve workers) Check e row another = absurd (omega (arith, e))
one_reading words (Solve workers) Weigh e row another = absurd (omega (arith, e))
one_reading words (Solve workers) Winner e row another = absurd (omega (arith, e))
one_reading words (Solve workers) CheckWinner e row another = absurd (omega (arith, e))
one_reading words (Report workers) (Solve workers_too) e row another = absurd (omega (arith, e))
one_reading words (Report workers) (Report others) e row another = let same = sym row.1 ∙ another.1 in ap Report (one_number 1 _ (omega arith) row.0 another.0 (cc same) workers others row.2 another.2)
one_reading words (Report workers) Check e row another = absurd (omega (arith, e))
one_reading words (Report workers) Weigh e row another = absurd (omega (arith, e))
one_reading words (Report workers) Winner e row another = absurd (omega (arith, e))
one_reading words (Report workers) CheckWinner e row another = absurd (omega (arith, e))
one_reading words Check (Solve workers_too) e row another = absurd (omega (arith, e))
one_reading words Check (Report workers_too) e row another = absurd (omega (arith, e))
one_reading words Check Check e row another = refl
one_reading words Check Weigh e row another = absurd (omega (arith, e))
one_reading words Check Winner e row another = absurd (omega (arith, e))
one_reading words Check CheckWinner e row another = absurd (omega (arith, e))
one_reading words Weigh (Solve workers_too) e row another = absurd (omega (arith, e))
one_reading words Weigh (Report workers_too) e row another = absurd (omega (arith, e))
one_reading words Weigh Check e row another = absurd (omega (arith, e))
one_reading words Weigh Weigh e row another = refl
one_reading words Weigh Winner e row another = absurd (omega (arith, e))
one_reading words Weigh CheckWinner e row another = absurd (omega (arith, e))
one_reading words Winner (Solve workers_too) e row another = absurd (omega (arith, e))
one_reading words Winner (Report workers_too) e row another = absurd (omega (arith, e))
one_reading words Winner Check e row another = absurd (omega (arith, e))
one_reading words Winner Weigh e row another = absurd (omega (arith, e))
one_reading words Winner Winner e row another = refl
one_reading words Winner CheckWinner e row another = absurd (omega (arith, e))
one_reading words CheckWinner (Solve workers_too) e row another = absurd (omega (arith, e))
one_reading words CheckWinner (Report workers_too) e row another = absurd (omega (arith, e))
one_reading words CheckWinner Check e row another = absurd (omega (arith, e))
one_reading words CheckWinner Weigh e row another = absurd (omega (arith, e))
one_reading words CheckWinner Winner e row another = absurd (omega (arith, e))
one_reading words CheckWinner CheckWinner e row another = refl

one_marked : (words : List (List ℕ)) (command other : Command) → command_mark command ≡ command_mark other → Names words command → Names words other → command ≡ other
unfolding mark reading_mark command_mark
one_marked words (Init secret) (Init others) e row another = let same = sym row.1 ∙ another.1 in ap Init (one_secret row.0 another.0 (cc same) secret others row.2 another.2)
one_marked words (Init secret) (Serve port_too workers_too count_too) e row another = absurd (omega (arith, e))
one_marked words (Init secret) Dump e row another = absurd (omega (arith, e))
one_marked words (Init secret) (Trial number_too workers_too) e row another = absurd (omega (arith, e))
one_marked words (Init secret) (Audit port_too asked_too) e row another = absurd (omega (arith, e))
one_marked words (Init secret) (Read reads) e row another = absurd ((apart reads).0 e)
one_marked words (Serve port workers count) (Init secret_too) e row another = absurd (omega (arith, e))
one_marked words (Serve port workers count) (Serve port_too workers_too count_too) e row another =
    let same = sym row.3 ∙ another.3 in
    let ports = one_number 1 _ (omega arith) row.0 another.0 (cc same) port port_too row.4 another.4 in
    let hands = one_number 1 _ (omega arith) row.1 another.1 (cc same) workers workers_too row.5 another.5 in
    let counts = one_number 1 _ (omega arith) row.2 another.2 (cc same) count count_too row.6 another.6 in
    cc (ports, hands, counts)
one_marked words (Serve port workers count) Dump e row another = absurd (omega (arith, e))
one_marked words (Serve port workers count) (Trial number_too workers_too) e row another = absurd (omega (arith, e))
one_marked words (Serve port workers count) (Audit port_too asked_too) e row another = absurd (omega (arith, e))
one_marked words (Serve port workers count) (Read reads) e row another = absurd ((apart reads).1 e)
one_marked words Dump (Init secret_too) e row another = absurd (omega (arith, e))
one_marked words Dump (Serve port_too workers_too count_too) e row another = absurd (omega (arith, e))
one_marked words Dump Dump e row another = refl
one_marked words Dump (Trial number_too workers_too) e row another = absurd (omega (arith, e))
one_marked words Dump (Audit port_too asked_too) e row another = absurd (omega (arith, e))
one_marked words Dump (Read reads) e row another = absurd ((apart reads).2 e)
one_marked words (Trial number workers) (Init secret_too) e row another = absurd (omega (arith, e))
one_marked words (Trial number workers) (Serve port_too workers_too count_too) e row another = absurd (omega (arith, e))
one_marked words (Trial number workers) Dump e row another = absurd (omega (arith, e))
one_marked words (Trial number workers) (Trial number_too workers_too) e row another =
    let same = sym row.2 ∙ another.2 in
    let numbers = one_number 0 _ (omega arith) row.0 another.0 (cc same) number number_too row.3 another.3 in
    let hands = one_number 1 _ (omega arith) row.1 another.1 (cc same) workers workers_too row.4 another.4 in
    cc (numbers, hands)
one_marked words (Trial number workers) (Audit port_too asked_too) e row another = absurd (omega (arith, e))
one_marked words (Trial number workers) (Read reads) e row another = absurd ((apart reads).3 e)
one_marked words (Audit port asked) (Init secret_too) e row another = absurd (omega (arith, e))
one_marked words (Audit port asked) (Serve port_too workers_too count_too) e row another = absurd (omega (arith, e))
one_marked words (Audit port asked) Dump e row another = absurd (omega (arith, e))
one_marked words (Audit port asked) (Trial number_too workers_too) e row another = absurd (omega (arith, e))
one_marked words (Audit port asked) (Audit port_too asked_too) e row another =
    let same = sym row.3 ∙ another.3 in
    let ports = one_number 1 _ (omega arith) row.0 another.0 (cc same) port port_too row.4 another.4 in
    let ids = one_number 1 _ (omega arith) row.1 another.1 (cc same) asked.id asked_too.id row.5 another.5 in
    let keys = one_key row.2 another.2 (cc same) asked.key asked_too.key row.6 another.6 in
    let asks = one_asked asked asked_too ids keys in
    cc (ports, asks)
one_marked words (Audit port asked) (Read reads) e row another = absurd ((apart reads).4 e)
one_marked words (Read reads) (Init secret) e row another = absurd ((apart reads).0 (sym e))
one_marked words (Read reads) (Serve port workers count) e row another = absurd ((apart reads).1 (sym e))
one_marked words (Read reads) Dump e row another = absurd ((apart reads).2 (sym e))
one_marked words (Read reads) (Trial number workers) e row another = absurd ((apart reads).3 (sym e))
one_marked words (Read reads) (Audit port asked) e row another = absurd ((apart reads).4 (sym e))
one_marked words (Read reads) (Read others) e row another = ap Read (one_reading words reads others e row another)

pub one_command : (words : List (List ℕ)) (command other : Command) → Names words command → Names words other → command ≡ other
one_command words command other row another = one_marked words command other (sym (is_mark words command row) ∙ is_mark words other another) row another
