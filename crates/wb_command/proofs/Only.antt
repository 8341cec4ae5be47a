-- Words ask for one thing at most.
use Rattle.std.proofs.Common.{◌≡◌, ◌∙◌, ℕ, Bool, true, false, List, Option, Some, None, ap, ap₂, refl, sym, subst, inl, inr, true≢false}
use Rattle.std.specs.Prelude.{Result, Ok, Err, IfOk, IfErr, MatchResult, IsSomeAnd, codes, bytes_eq, is_some, unwrap_or}
use Rattle.clap.specs.Words.{IsAmong, Row, Text, one_of, subcommand_of}
use Rattle.wb_command.specs.Asks.{Asks, HasNumber, HasWorkers, IsDesk, IsMeant, IsOptional, IsPlace, IsStay, Means, MeansAny, Refuses, Writes, is_set, program}
use Rattle.wb_command.specs.declared.Asked.{Asked}
use Rattle.wb_command.specs.declared.Asked.TheVariants.{Run, RunKept, Check, Upgrade, Compact, Serve, ServeKept}
use Rattle.wb_command.specs.declared.CommandErr.{CommandErr}
use Rattle.wb_command.specs.declared.Place.{Place}
use Rattle.wb_command.specs.declared.Place.TheVariants.{Port, Socket}
use Rattle.wb_command.specs.declared.Stay.{Stay}
use Rattle.wb_command.specs.declared.Wanted.{Wanted}
use Rattle.wb_command.specs.declared.Wanted.TheVariants as wanted
use Rattle.wb_command.proofs.Getters.{serve_day}
use Rattle.wb_command.specs.declared.CommandErr.TheVariants.{Help, BadCommandLine, NothingMeant, NoMemory}

one_number_in : (bits : ℕ) (o : Option Text) (m n : ℕ) → IsSomeAnd o (λ text. Writes bits text m) → IsSomeAnd o (λ text. Writes bits text n) → m ≡ n
one_number_in bits None m n h k = absurd h
one_number_in bits (Some text) m n h k = h.2 ∙ sym k.2

one_number : (bits : ℕ) (name : Text) (found : List Row) (m n : ℕ) → HasNumber bits name found m → HasNumber bits name found n → m ≡ n
one_number bits name found m n h k = one_number_in bits (one_of name found) m n h k

missing : (bits : ℕ) (o : Option Text) (n : ℕ) → o ≡ None → IsSomeAnd o (λ text. Writes bits text n) → ⊥
missing bits None n none h = h
missing bits (Some text) n none h = true≢false (ap is_some none)

one_workers : (found : List Row) (m n : ℕ) → HasWorkers found m → HasWorkers found n → m ≡ n
one_workers found m n (inl h) (inl k) = h.1 ∙ sym k.1
one_workers found m n (inl h) (inr k) = absurd (missing 8 (one_of (codes "workers") found) n h.0 k)
one_workers found m n (inr h) (inl k) = absurd (missing 8 (one_of (codes "workers") found) m k.0 h)
one_workers found m n (inr h) (inr k) = one_number 8 (codes "workers") found m n h k

-- two names that a test of bytes tells apart
apart : (a b : Text) (name : Text) → bytes_eq a b ≡ false → bytes_eq a a ≡ true → name ≡ a → name ≡ b → ⊥
apart a b name differ same is_a is_b = true≢false (sym same ∙ ap (bytes_eq a) (sym is_a ∙ is_b) ∙ differ)

no_word : (word : Text) → Some word ≡ None → ⊥
no_word word e = true≢false (ap is_some e)

same_word : (a b : Text) → Some a ≡ Some b → a ≡ b
same_word a b e = ap (λ (o : Option Text). unwrap_or o a) e

one_desk : (make : ℕ → ℕ → ℕ → Asked) (found : List Row) (p q t u w v : ℕ) → IsDesk found (Port p) t w → IsDesk found (Port q) u v → make p t w ≡ make q u v
one_desk make found p q t u w v m n = ap₂ (λ port seats. make port seats w) (one_number 16 (codes "port") found p q m.0.0 n.0.0)
    (one_number 8 (codes "seats") found t u m.1 n.1) ∙ ap (make q u) (one_workers found w v m.2 n.2)

one_meaning : (name : Text) (found : List Row) (a b : Asked) → Means name found a → Means name found b → a ≡ b
one_meaning name found (Run r w) (Run s v) m n = ap₂ Run (m.1 ∙ sym n.1) (one_workers found w v m.3 n.3)
one_meaning name found (Run r w) (RunKept j s v) m n = absurd (no_word j (sym n.2 ∙ m.2))
one_meaning name found (Run r w) Check m n = absurd (apart (codes "run") (codes "check") name refl refl m.0 n)
one_meaning name found (Run r w) Upgrade m n = absurd (apart (codes "run") (codes "upgrade") name refl refl m.0 n)
one_meaning name found (Run r w) (Compact j) m n = absurd (apart (codes "run") (codes "compact") name refl refl m.0 n.0)
one_meaning name found (Run r w) (Serve q u s v) m n = absurd (apart (codes "run") (codes "serve") name refl refl m.0 n.0)
one_meaning name found (Run r w) (ServeKept j q u v) m n = absurd (apart (codes "run") (codes "serve") name refl refl m.0 n.0)
one_meaning name found (RunKept i r w) (Run s v) m n = absurd (no_word i (sym m.2 ∙ n.2))
one_meaning name found (RunKept i r w) (RunKept j s v) m n =
    ap₂ (λ path. RunKept path r) (same_word i j (sym m.2 ∙ n.2)) (one_workers found w v m.3 n.3) ∙ ap (λ resume. RunKept j resume v) (m.1 ∙ sym n.1)
one_meaning name found (RunKept i r w) Check m n = absurd (apart (codes "run") (codes "check") name refl refl m.0 n)
one_meaning name found (RunKept i r w) Upgrade m n = absurd (apart (codes "run") (codes "upgrade") name refl refl m.0 n)
one_meaning name found (RunKept i r w) (Compact j) m n = absurd (apart (codes "run") (codes "compact") name refl refl m.0 n.0)
one_meaning name found (RunKept i r w) (Serve q u s v) m n = absurd (apart (codes "run") (codes "serve") name refl refl m.0 n.0)
one_meaning name found (RunKept i r w) (ServeKept j q u v) m n = absurd (apart (codes "run") (codes "serve") name refl refl m.0 n.0)
one_meaning name found Check (Run s v) m n = absurd (apart (codes "check") (codes "run") name refl refl m n.0)
one_meaning name found Check (RunKept j s v) m n = absurd (apart (codes "check") (codes "run") name refl refl m n.0)
one_meaning name found Check Check m n = refl
one_meaning name found Check Upgrade m n = absurd (apart (codes "check") (codes "upgrade") name refl refl m n)
one_meaning name found Check (Compact j) m n = absurd (apart (codes "check") (codes "compact") name refl refl m n.0)
one_meaning name found Check (Serve q u s v) m n = absurd (apart (codes "check") (codes "serve") name refl refl m n.0)
one_meaning name found Check (ServeKept j q u v) m n = absurd (apart (codes "check") (codes "serve") name refl refl m n.0)
one_meaning name found Upgrade (Run s v) m n = absurd (apart (codes "upgrade") (codes "run") name refl refl m n.0)
one_meaning name found Upgrade (RunKept j s v) m n = absurd (apart (codes "upgrade") (codes "run") name refl refl m n.0)
one_meaning name found Upgrade Check m n = absurd (apart (codes "upgrade") (codes "check") name refl refl m n)
one_meaning name found Upgrade Upgrade m n = refl
one_meaning name found Upgrade (Compact j) m n = absurd (apart (codes "upgrade") (codes "compact") name refl refl m n.0)
one_meaning name found Upgrade (Serve q u s v) m n = absurd (apart (codes "upgrade") (codes "serve") name refl refl m n.0)
one_meaning name found Upgrade (ServeKept j q u v) m n = absurd (apart (codes "upgrade") (codes "serve") name refl refl m n.0)
one_meaning name found (Compact i) (Run s v) m n = absurd (apart (codes "compact") (codes "run") name refl refl m.0 n.0)
one_meaning name found (Compact i) (RunKept j s v) m n = absurd (apart (codes "compact") (codes "run") name refl refl m.0 n.0)
one_meaning name found (Compact i) Check m n = absurd (apart (codes "compact") (codes "check") name refl refl m.0 n)
one_meaning name found (Compact i) Upgrade m n = absurd (apart (codes "compact") (codes "upgrade") name refl refl m.0 n)
one_meaning name found (Compact i) (Compact j) m n = ap Compact (same_word i j (sym m.1 ∙ n.1))
one_meaning name found (Compact i) (Serve q u s v) m n = absurd (apart (codes "compact") (codes "serve") name refl refl m.0 n.0)
one_meaning name found (Compact i) (ServeKept j q u v) m n = absurd (apart (codes "compact") (codes "serve") name refl refl m.0 n.0)
one_meaning name found (Serve p t r w) (Run s v) m n = absurd (apart (codes "serve") (codes "run") name refl refl m.0 n.0)
one_meaning name found (Serve p t r w) (RunKept j s v) m n = absurd (apart (codes "serve") (codes "run") name refl refl m.0 n.0)
one_meaning name found (Serve p t r w) Check m n = absurd (apart (codes "serve") (codes "check") name refl refl m.0 n)
one_meaning name found (Serve p t r w) Upgrade m n = absurd (apart (codes "serve") (codes "upgrade") name refl refl m.0 n)
one_meaning name found (Serve p t r w) (Compact j) m n = absurd (apart (codes "serve") (codes "compact") name refl refl m.0 n.0)
one_meaning name found (Serve p t r w) (Serve q u s v) m n =
    one_desk (λ port seats workers. Serve port seats r workers) found p q t u w v m.4 n.4 ∙ ap (λ resume. Serve q u resume v) (m.1 ∙ sym n.1)
one_meaning name found (Serve p t r w) (ServeKept j q u v) m n = absurd (no_word j (sym n.2 ∙ m.2))
one_meaning name found (ServeKept i p t w) (Run s v) m n = absurd (apart (codes "serve") (codes "run") name refl refl m.0 n.0)
one_meaning name found (ServeKept i p t w) (RunKept j s v) m n = absurd (apart (codes "serve") (codes "run") name refl refl m.0 n.0)
one_meaning name found (ServeKept i p t w) Check m n = absurd (apart (codes "serve") (codes "check") name refl refl m.0 n)
one_meaning name found (ServeKept i p t w) Upgrade m n = absurd (apart (codes "serve") (codes "upgrade") name refl refl m.0 n)
one_meaning name found (ServeKept i p t w) (Compact j) m n = absurd (apart (codes "serve") (codes "compact") name refl refl m.0 n.0)
one_meaning name found (ServeKept i p t w) (Serve q u s v) m n = absurd (no_word i (sym m.2 ∙ n.2))
one_meaning name found (ServeKept i p t w) (ServeKept j q u v) m n =
    one_desk (ServeKept i) found p q t u w v m.4 n.4 ∙ ap (λ path. ServeKept path q u v) (same_word i j (sym m.2 ∙ n.2))

one_idle : (found : List Row) (o p : Option ℕ) → IsOptional 32 (codes "idle") found o → IsOptional 32 (codes "idle") found p → o ≡ p
one_idle found None None h k = refl
one_idle found None (Some n) h k = absurd (missing 32 (one_of (codes "idle") found) n h k)
one_idle found (Some m) None h k = absurd (missing 32 (one_of (codes "idle") found) m k h)
one_idle found (Some m) (Some n) h k = ap Some (one_number 32 (codes "idle") found m n h k)

one_place : (found : List Row) (a b : Place) → IsPlace found a → IsPlace found b → a ≡ b
one_place found (Port p) (Port q) h k = ap Port (one_number 16 (codes "port") found p q h.0 k.0)
one_place found (Port p) (Socket b) h k = absurd (no_word b (sym k.1 ∙ h.1))
one_place found (Socket a) (Port q) h k = absurd (no_word a (sym h.1 ∙ k.1))
one_place found (Socket a) (Socket b) h k = ap Socket (same_word a b (sym h.1 ∙ k.1))

abbrev stay_of : Place → ℕ → ℕ → Bool → ℕ → Stay
stay_of place seats idle quiet workers = record { place = place; seats = seats; idle = idle; quiet = quiet; workers = workers }

one_stay : (found : List Row) (s t : Stay) → IsStay found s → IsStay found t → s ≡ t
one_stay found s t h k =
    let same_idle : s.idle ≡ t.idle = h.2.2 ∙ (ap (λ o. unwrap_or o 300) (one_idle found h.2.0 k.2.0 h.2.1 k.2.1) ∙ sym k.2.2) in
    ap₂ (λ place seats. stay_of place seats s.idle s.quiet s.workers) (one_place found s.place t.place h.3.0 k.3.0)
    (one_number 8 (codes "seats") found s.seats t.seats h.3.1 k.3.1)
    ∙ (ap₂ (λ idle quiet. stay_of t.place t.seats idle quiet s.workers) same_idle (h.4 ∙ sym k.4)
    ∙ ap (stay_of t.place t.seats t.idle t.quiet) (one_workers found s.workers t.workers h.3.2 k.3.2))

not_both : (name : Text) (found : List Row) (asked : Asked) → Means name found asked → name ≡ codes "serve" → is_set (codes "stay") found ≡ true → ⊥
not_both name found asked m serve set = true≢false (sym set ∙ (serve_day found asked (subst (λ n. Means n found asked) serve m)).0)

one_wanted : (name : Text) (found : List Row) (a b : Wanted) → MeansAny name found a → MeansAny name found b → a ≡ b
one_wanted name found (wanted.Once a) (wanted.Once b) m n = ap wanted.Once (one_meaning name found a b m n)
one_wanted name found (wanted.Once a) (wanted.Stay t) m n = absurd (not_both name found a m n.0 n.2.0)
one_wanted name found (wanted.Once a) (wanted.StayKept j t) m n = absurd (not_both name found a m n.0 n.2.0)
one_wanted name found (wanted.Stay s) (wanted.Once b) m n = absurd (not_both name found b n m.0 m.2.0)
one_wanted name found (wanted.Stay s) (wanted.Stay t) m n = ap wanted.Stay (one_stay found s t m.2 n.2)
one_wanted name found (wanted.Stay s) (wanted.StayKept j t) m n = absurd (no_word j (sym n.1 ∙ m.1))
one_wanted name found (wanted.StayKept i s) (wanted.Once b) m n = absurd (not_both name found b n m.0 m.2.0)
one_wanted name found (wanted.StayKept i s) (wanted.Stay t) m n = absurd (no_word i (sym m.1 ∙ n.1))
one_wanted name found (wanted.StayKept i s) (wanted.StayKept j t) m n = ap₂ wanted.StayKept (same_word i j (sym m.1 ∙ n.1)) (one_stay found s t m.2 n.2)

one_meant : (named : Option (Text × List Row)) (a b : Wanted) → IsMeant named a → IsMeant named b → a ≡ b
one_meant None a b m n = absurd m
one_meant (Some p) a b m n = one_wanted p.0 p.1 a b m n

no_refusal : (words : List Text) (asked : Wanted) (e : CommandErr) → Asks words asked → Refuses words e → e ≡ NoMemory
no_refusal words asked (Help shown) asks h = absurd (subst (IsAmong _) asks.0 h.0)
no_refusal words asked (BadCommandLine shown) asks h = absurd (subst (IsAmong _) asks.0 h.0)
no_refusal words asked (NothingMeant why) asks h = absurd (h.0.1 asked asks.1)
no_refusal words asked NoMemory asks h = refl

-- an answer that meets the other clauses is the only one
pub only_answer : (words : List Text) (r : Result Wanted CommandErr) → IfOk r (Asks words) → IfErr r (Refuses words)
    → (asked : Wanted) → Asks words asked → MatchResult r (λ given. given ≡ asked) (λ e. e ≡ NoMemory)
only_answer words (Ok given) ok err asked asks = one_meant (subcommand_of program words) given asked ok.1 asks.1
only_answer words (Err e) ok err asked asks = no_refusal words asked e asks err
