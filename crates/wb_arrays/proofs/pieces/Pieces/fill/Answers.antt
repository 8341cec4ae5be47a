use Rattle.std.proofs.Common.{◌≡◌, map, set, arith, sym, ap, ◌∙◌}
use Rattle.std.specs.Map.{keys_of}
use Rattle.wb_arrays.specs.Pieces.{lists_of, merged}
use Rattle.wb_arrays.proofs.Parts.{length-lists_of}
use Rattle.wb_arrays.proofs.Replaced.{keys-filled, some_piece, first_is, replaced}
use Rattle.wb_arrays.proofs.pieces.Pieces.fill.Goals as goal

pub fill_first-requires : goal.fill_first-requires
fill_first-requires g c =
    let p = c.self.inside in
    let cmp = g.D.Index.Ord.cmp in
    let locale = g.M.Mapping.locale p.mapping in
    let n = g.M.Mapping.locale_count p.mapping in
    let ps = lists_of p.pieces.items in
    let one : n ≡ 1 = ap (λ v. g.M.Mapping.locale_count v.1) c.self.view_is ∙ ap g.M.Mapping.locale_count (sym c.mapping.ensures.value)
    ∙ sym c.locales.ensures.count ∙ c.if-locales-ne1.false in
    omega (arith, some_piece cmp locale n p.size ps one c.self.invariant, length-lists_of p.pieces.items)

pub invariant_of-self : goal.invariant_of-self
invariant_of-self g c =
    let p = c.self.inside in
    let cmp = g.D.Index.Ord.cmp in
    let locale = g.M.Mapping.locale p.mapping in
    let n = g.M.Mapping.locale_count p.mapping in
    let ps = lists_of p.pieces.items in
    let one : n ≡ 1 = ap (λ v. g.M.Mapping.locale_count v.1) c.self.view_is ∙ ap g.M.Mapping.locale_count (sym c.mapping.ensures.value)
    ∙ sym c.locales.ensures.count ∙ c.if-locales-ne1.false in
    let es = merged cmp ps in
    (replaced cmp locale n p.size ps one c.self.invariant g.met.D.Index.Ord.total g.met.D.Index.Key.exact (lists_of c.fill_first.new.pieces.items)
    (map (λ e. (e.0, c.args.number.now)) es) (keys-filled es c.args.number.now)
    (c.fill_first.ensures ∙ ap (λ xs. set ps 0 (map (λ e. (e.0, c.args.number.now)) xs)) (first_is cmp locale n p.size ps one c.self.invariant))).1

pub returns-clause-done : goal.returns-clause-done
returns-clause-done g c = λ _.
    let p = c.self.inside in
    let cmp = g.D.Index.Ord.cmp in
    let locale = g.M.Mapping.locale p.mapping in
    let n = g.M.Mapping.locale_count p.mapping in
    let ps = lists_of p.pieces.items in
    let one : n ≡ 1 = ap (λ v. g.M.Mapping.locale_count v.1) c.self.view_is ∙ ap g.M.Mapping.locale_count (sym c.mapping.ensures.value)
    ∙ sym c.locales.ensures.count ∙ c.if-locales-ne1.false in
    let es = merged cmp ps in
    (replaced cmp locale n p.size ps one c.self.invariant g.met.D.Index.Ord.total g.met.D.Index.Key.exact (lists_of c.fill_first.new.pieces.items)
    (map (λ e. (e.0, c.args.number.now)) es) (keys-filled es c.args.number.now)
    (c.fill_first.ensures ∙ ap (λ xs. set ps 0 (map (λ e. (e.0, c.args.number.now)) xs)) (first_is cmp locale n p.size ps one c.self.invariant))).0
    ∙ ap (λ v. map (λ e. (e.0, c.args.number.now)) v.0) c.self.view_is

pub returns-clause-indices : goal.returns-clause-indices
returns-clause-indices g c =
    let p = c.self.inside in
    let cmp = g.D.Index.Ord.cmp in
    let locale = g.M.Mapping.locale p.mapping in
    let n = g.M.Mapping.locale_count p.mapping in
    let ps = lists_of p.pieces.items in
    let one : n ≡ 1 = ap (λ v. g.M.Mapping.locale_count v.1) c.self.view_is ∙ ap g.M.Mapping.locale_count (sym c.mapping.ensures.value)
    ∙ sym c.locales.ensures.count ∙ c.if-locales-ne1.false in
    let es = merged cmp ps in
    ap keys_of ((replaced cmp locale n p.size ps one c.self.invariant g.met.D.Index.Ord.total g.met.D.Index.Key.exact (lists_of c.fill_first.new.pieces.items)
    (map (λ e. (e.0, c.args.number.now)) es) (keys-filled es c.args.number.now)
    (c.fill_first.ensures ∙ ap (λ xs. set ps 0 (map (λ e. (e.0, c.args.number.now)) xs)) (first_is cmp locale n p.size ps one c.self.invariant))).0)
    ∙ keys-filled es c.args.number.now ∙ ap (λ v. keys_of v.0) c.self.view_is
