use Rattle.std.proofs.Common.{◌≡◌, None, sym, ap, ◌∙◌, w64}
use Rattle.std.specs.BTreeMap.{get}
use Rattle.std.specs.Option.{option_copied_mut}
use Rattle.std.proofs.lemmas.Int.{to_z-of_z}
use Rattle.wb_arrays.proofs.Changes.{set_value-none}
use Rattle.wb_arrays.proofs.bound.BoundStore.set.Goals as goal
use Rattle.wb_arrays.proofs.bound.BoundStore.set.Goals.{in-Some, in-None}

pub returns-clause-elements : goal.returns-clause-elements
returns-clause-elements g c = elim c.match-get_mut.branch [
  | in-Some w ↦
      let written = (c.get_mut.follows.holds c.args.value).0 in
      rw (w.self-inside-is, to_z-of_z w64 c.args.value c.ranges.value) (cc (written, c.self.view_is))
  | in-None w ↦
      let none : get g.D.Index.Ord.cmp c.self.inside.map c.args.index ≡ None = sym c.get_mut.ensures.value ∙ ap option_copied_mut w.in-None.is in
      let stays = set_value-none _ c.self.inside.map.entries c.args.value none in
      rw w.self-inside-is (cc (c.get_mut.follows.holds-at-none, stays, c.self.view_is))
]
