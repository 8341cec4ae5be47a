-- The texts of what words for a desk are answered.
use Rattle.std.specs.Prelude.{ℕ, List, ◌++◌, Option, Some, None, codes, decimal}
use Rattle.std.specs.List.{join_by}
use Rattle.wb_company.specs.declared.company.Guest.{Guest}
use Rattle.wb_company.specs.declared.doings.Deed.{Deed}
use Rattle.wb_company.specs.declared.doings.Deed.TheVariants.{Edited, Undone, Redone}
use Rattle.wb_company.specs.declared.doings.Doing.{Doing}
use Rattle.wb_company.specs.declared.telling.Answer.{Answer}
use Rattle.wb_company.specs.declared.telling.Answer.TheVariants.{Seat, Done, Desk}

-- what was done with an edit, as the op that does it
abbrev pub deed_word : Deed → List ℕ
deed_word Edited = codes "edit"
deed_word Undone = codes "undo"
deed_word Redone = codes "redo"

-- a name in quotes, which needs no escapes, since it is a label
abbrev pub name_text : Option (List ℕ) → List ℕ
name_text None = codes "null"
name_text (Some name) = codes "\"" ++ (name ++ codes "\"")

abbrev pub doing_text : Doing → List ℕ
doing_text d = (codes "{\"did\":\"" ++ (deed_word d.deed ++ (codes "\",\"edit\":" ++ (decimal d.number ++ codes ",\"name\":"))))
    ++ (name_text d.name ++ (codes ",\"seat\":" ++ (decimal d.seat ++ codes "}")))

abbrev pub guest_text : Guest → List ℕ
guest_text g = (codes "{\"name\":\"" ++ (g.name ++ codes "\"")) ++ (codes ",\"seat\":" ++ (decimal g.seat ++ codes "}"))

-- behind a comma
abbrev pub further : {X : Type 0} → (X → List ℕ) → X → List ℕ
further text x = codes "," ++ text x

-- how many bytes a journal has, if there is one
abbrev pub bytes_text : Option ℕ → List ℕ
bytes_text None = codes "null"
bytes_text (Some n) = decimal n

-- {"seat":SEAT}
abbrev pub seat_text : ℕ → List ℕ
seat_text seat = codes "{\"seat\":" ++ (decimal seat ++ codes "}")

-- {"done":[{"did":OP,"edit":NUMBER,"name":NAME,"seat":SEAT}, ..],"from":NUMBER}
abbrev pub told_text : ℕ → List Doing → List ℕ
told_text first ds = codes "{\"done\":[" ++ (join_by doing_text (codes ",") ds ++ (codes "],\"from\":" ++ (decimal first ++ codes "}")))

-- {"entries":NUMBER,"free":NUMBER,"journal":BYTES,"names":[{"name":NAME,"seat":SEAT}, ..],"seats":NUMBER,"since":SECONDS}
abbrev pub standing_text : (entries free : ℕ) → (journal : Option ℕ) → List Guest → (seats since : ℕ) → List ℕ
standing_text entries free journal guests seats since =
    (codes "{\"entries\":" ++ (decimal entries ++ (codes ",\"free\":" ++ (decimal free ++ codes ",\"journal\":"))))
    ++ (bytes_text journal ++ (codes ",\"names\":[" ++ (join_by guest_text (codes ",") guests
    ++ (codes "],\"seats\":" ++ (decimal seats ++ (codes ",\"since\":" ++ (decimal since ++ codes "}")))))))

abbrev pub answer_text : Answer → List ℕ
answer_text (Seat seat) = seat_text seat
answer_text (Done told) = told_text told.first told.doings.items
answer_text (Desk desk) = standing_text desk.entries desk.free desk.journal desk.guests.items desk.seats desk.since
