-- Where the name of a request stands in the tables of two lists.
use Rattle.std.specs.Prelude.{◌≡◌, ℕ, [], ◌∷◌, ◌++◌}
use Rattle.wb_cells.specs.Cells.{Name}
use Rattle.wb_requests.specs.declared.requests.request.Request.{Request}
use Rattle.wb_desk.specs.declared.entry.Entry.{Entry}
use Rattle.wb_desk.specs.declared.placing.Placed.{Placed}
use Rattle.wb_desk.specs.declared.register.Register.{Register}
use Rattle.wb_desk.specs.Briefs.{request_of}
use Rattle.wb_desk.specs.Records.{entries_in}
use Rattle.wb_desk.specs.Tables.{IsNamed}

-- The lists are of the seat, and the name stands at these places of their tables.
pub record AreNamed (seat : ℕ) (a : Name) (list own : Register) (first second : ℕ) : Type 0 where
  pub first_seat : list.seat ≡ seat
  pub first_name : IsNamed list.names.items first a
  pub second_seat : own.seat ≡ seat
  pub second_name : IsNamed own.names.items second a

-- It is this request, the lists are of the seat, and the name stands at these places.
pub record IsPlaced (seat : ℕ) (asked : Request) (list own : Register) (p : Placed) : Type 0 where
  pub request : request_of p.name p.brief ≡ asked
  pub first_seat : list.seat ≡ seat
  pub first : IsNamed list.names.items p.first p.name
  pub second_seat : own.seat ≡ seat
  pub second : IsNamed own.names.items p.second p.name

-- An entry comes to the end of both lists, which were the first and the third.
pub record BothEnter (list list' own own' : Register) (e : Entry) : Type 0 where
  pub list_entries : entries_in list' ≡ entries_in list ++ e ∷ []
  pub own_entries : entries_in own' ≡ entries_in own ++ e ∷ []

-- Both lists have the entries that they had.
pub record BothStay (list list' own own' : Register) : Type 0 where
  pub list_entries : entries_in list' ≡ entries_in list
  pub own_entries : entries_in own' ≡ entries_in own
