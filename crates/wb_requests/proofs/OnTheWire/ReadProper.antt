-- A request that was read of a line is one that a line can say.
use Rattle.std.proofs.Common.{◌≡◌, ℕ, ℤ, Bool, true, false, List, [], ◌∷◌, Option, Some, None, Ok, refl, sym, subst, arith, if◌then◌else◌}
use Rattle.std.specs.Prelude.{bytes_eq}
use Rattle.serde_json.specs.Data.{Data, Items, no_items, item, Members, no_members, member}
use Rattle.serde_json.specs.Find.{get_member}
use Rattle.wb_cells.specs.Layouts.{IsLayout}
use Rattle.wb_cells.specs.declared.values.index.Index.{Index}
use Rattle.wb_cells.specs.declared.values.index.Index.TheVariants.{Point, Text}
use Rattle.wb_literals.specs.Limits.Literals.{listed_in}
use Rattle.wb_reshape.specs.declared.operand.Operand.{Operand}
use Rattle.wb_reshape.specs.declared.operand.Operand.TheVariants.{Rectangle, Items as Listed, Named}
use Rattle.wb_requests.specs.Requests.{request}
use Rattle.wb_requests.specs.declared.requests.request.Request.{Request}
use Rattle.wb_requests.specs.Wire.Table.{Meaning, word, name, integer, number, index, given, mapping, optional_mapping, book, numbers}
use Rattle.wb_requests.specs.Wire.Table.{some_set, some_numbers, note, edits, Fields, command_table, table}
use Rattle.wb_edit.specs.declared.command.Command.{Command}
use Rattle.wb_requests.specs.Wire.Spelled.{AreIntegers, IsIndex, IsOperand, SpellsBy, MayLack, SaysBy, without, HasFieldsBy, AreCommands, IsEdits}
use Rattle.wb_requests.specs.Wire.Proper.{AllWithin, IsProperIndex, IsProperOperand, IsProperBy, AreProperBy, AreProperCommands, AreProperEdits, IsProperRequest}
use Rattle.wb_requests.proofs.OnTheWire.Lines.{line_found}
use Rattle.wb_requests.proofs.OnTheWire.Mappings.{mapping_is}
use Rattle.wb_requests.proofs.OnTheWire.Readable.{IsFit, AreFitItems, AreFit, read_fits, member_fits, integer_within}
use Rattle.wb_requests.proofs.OnTheWire.Rectangles.{domain_is}
use Rattle.wb_requests.proofs.OnTheWire.Sets.{ascending_again, set_is}

-- ---- what a value spells

index_is : (d : Data) (i : Index) → IsFit d → IsIndex d i → IsProperIndex i
index_is d (Point []) f h = absurd h
index_is d (Point (i ∷ [])) f h = (omega arith, omega arith, (integer_within d h.0 i f h.1 h.2, tt))
index_is d (Point (i ∷ j ∷ [])) f h =
    let g = subst IsFit h.2 f in
    (omega arith, omega arith, (integer_within h.0 h.3.0 i g.0 h.3.1 h.3.2, (integer_within h.1 h.4.0 j g.1.0 h.4.1 h.4.2, tt)))
index_is d (Point (i ∷ j ∷ k ∷ [])) f h =
    let g = subst IsFit h.3 f in (
      omega arith,
      omega arith,
      (
        integer_within h.0 h.4.0 i g.0 h.4.1 h.4.2,
        (integer_within h.1 h.5.0 j g.1.0 h.5.1 h.5.2, (integer_within h.2 h.6.0 k g.1.1.0 h.6.1 h.6.2, tt)),
      ),
    )
index_is d (Point (i ∷ j ∷ k ∷ l ∷ is)) f h = absurd h
index_is d (Text t) f h = h.1

integers_are : (ds : Items) (zs : List ℤ) → AreFitItems ds → AreIntegers ds zs → AllWithin zs
integers_are no_items [] f h = tt
integers_are (item d ds) (z ∷ zs) f h = (integer_within d h.0.0 z f.0 h.0.1 h.0.2, integers_are ds zs f.1 h.1)
integers_are no_items (z ∷ zs) f h = absurd h
integers_are (item d ds) [] f h = absurd h

given_is : (d : Data) (g : Operand) → IsOperand d g → IsProperOperand g
given_is d (Rectangle ranges) h = domain_is h.1 ranges h.4
given_is d (Listed is) h = subst (λ is. IsProperOperand (Listed is)) h.4 (set_is h.0 h.1 h.3, ascending_again (listed_in h.1))
given_is d (Named n) h = h.1

-- a member that is missing is a mapping, which is then the one of a single locale
missing_is : (P : List Command → Type 0) (x : Meaning) → MayLack x → IsProperBy P x
missing_is P (optional_mapping m) h = subst IsLayout (sym h) tt
missing_is P (word w) h = absurd h
missing_is P (name n) h = absurd h
missing_is P (integer z) h = absurd h
missing_is P (number k) h = absurd h
missing_is P (index i) h = absurd h
missing_is P (given g) h = absurd h
missing_is P (mapping m) h = absurd h
missing_is P (book text) h = absurd h
missing_is P (numbers on vs) h = absurd h
missing_is P some_set h = absurd h
missing_is P some_numbers h = absurd h
missing_is P (note n) h = absurd h
missing_is P (edits cs) h = absurd h

-- ---- all members
fit_without : (k : List ℕ) (ms : Members) → AreFit ms → AreFit (without k ms)
fit_without k no_members f = tt
fit_without k (member l d ms) f = kept (bytes_eq k l) f.0 f.1 (fit_without k ms f.1)
  where
    kept : (b : Bool) → IsFit d → AreFit ms → AreFit (without k ms) → AreFit (if b then ms else member l d (without k ms))
    kept true one all rest = all
    kept false one all rest = (one, rest)

-- by what commands are
module _ (E : Data → List Command → Type 0) (P : List Command → Type 0) (several : (d : Data) (cs : List Command) → IsFit d → E d cs → P cs) where
  spelled_is : (d : Data) (x : Meaning) → IsFit d → SpellsBy E d x → IsProperBy P x
  spelled_is d (word w) f h = tt
  spelled_is d (name n) f h = h.1
  spelled_is d (integer z) f h = integer_within d h.0 z f h.1 h.2
  spelled_is d (number k) f h = tt
  spelled_is d (index i) f h = index_is d i f h
  spelled_is d (given g) f h = given_is d g h
  spelled_is d (mapping m) f h = mapping_is h.0 h.1 m h.3 h.4
  spelled_is d (optional_mapping m) f h = mapping_is h.0 h.1 m h.3 h.4
  spelled_is d (book text) f h = h.1
  spelled_is d (numbers on vs) f h = (integers_are h.0.0 vs (subst IsFit h.0.1 f) h.0.2, h.1)
  spelled_is d some_set f h = tt
  spelled_is d some_numbers f h = tt
  spelled_is d (note n) f h = h.1
  spelled_is d (edits cs) f h = several d cs f h

  said_is : (o : Option Data) (x : Meaning) → ((d : Data) → o ≡ Some d → IsFit d) → SaysBy E o x → IsProperBy P x
  said_is None x f h = missing_is P x h
  said_is (Some d) x f h = spelled_is d x (f d refl) h

  fields_are : (fs : Fields) (ms : Members) → AreFit ms → HasFieldsBy E ms fs → AreProperBy P fs
  fields_are [] ms f h = tt
  fields_are (x ∷ fs) ms f h =
      (said_is (get_member x.0 ms) x.1 (λ d e. member_fits x.0 ms d f e) h.0, fields_are fs (without x.0 ms) (fit_without x.0 ms f) h.1)

commands_are : (ds : Items) (cs : List Command) → AreFitItems ds → AreCommands ds cs → AreProperCommands cs
commands_are no_items [] f h = tt
commands_are (item d ds) (c ∷ cs) f h = (
  fields_are (λ v cs. ⊥) (λ cs. ⊥) (λ v cs g k. k) (command_table c) h.0.0 (subst IsFit h.0.1 f.0) h.0.2,
  commands_are ds cs f.1 h.1,
)
commands_are no_items (c ∷ cs) f h = absurd h
commands_are (item d ds) [] f h = absurd h

edits_are : (d : Data) (cs : List Command) → IsFit d → IsEdits d cs → AreProperEdits cs
edits_are d cs f h = (commands_are h.0 cs (subst IsFit h.1 f) h.2, h.3)

pub read_proper : (line : List ℕ) (r : Request) → request line ≡ Ok r → IsProperRequest r
read_proper line r e =
    let x = line_found line r e in
    let ms = x.3.0 in
    fields_are IsEdits AreProperEdits edits_are (table r) ms (subst IsFit x.3.1 (read_fits line x.0 x.2)) x.3.2
