-- Places that are lent to one guest after another.
use Rattle.std.specs.Prelude.{◌≡◌, ◌⊎◌, ℕ, true, false, List, [], ◌∷◌, Some, length, slice_get}
use Rattle.wb_lending.specs.declared.guests.Guests as Guests
use Rattle.wb_lending.specs.declared.guests.Hosts as Hosts

module _ {G C D E : Type 0} (guests : Guests.Ghosts G C D E) where
  -- A look at what guests come from found that nobody comes any more.
  abbrev pub Ended : Type 0
  Ended = (g : G) × guests.over g

module _ {G H P C D E : Type 0} (guests : Guests.Ghosts G C D E) (hosts : Hosts.Ghosts H P C E) where
  -- Of what a place kept, guests that came were served one after another, each on what the one before it left, and after each it might be
  -- lent on.
  abbrev pub Served : P → List C → P → Type 0
  Served p [] k = k ≡ p
  Served p (c ∷ cs) k = (g : G) × (n : ℕ) × (m : P) × guests.came g n c × hosts.served p c m true × Served m cs k

  -- One guest more who came was served, after whom the place may not be lent on.
  pub record Retired (p k : P) : Type 0 where
    pub from : G
    pub number : ℕ
    pub guest : C
    pub came : guests.came from number guest
    pub served : hosts.served p guest k false

  -- So was a place lent, until nobody came any more, or until it was retired.
  pub record Lent (p k : P) : Type 0 where
    pub to : List C
    pub last : P
    pub served : Served p to last
    pub ended : ((k ≡ last) × Ended guests) ⊎ Retired last k

  -- So was each of these places, and nobody is left to be turned away either.
  pub record AllLent (ps ks : List P) : Type 0 where
    pub count : length ks ≡ length ps
    pub each : (place : ℕ) (p k : P) → slice_get ps place ≡ Some p → slice_get ks place ≡ Some k → Lent p k
    pub ended : Ended guests
