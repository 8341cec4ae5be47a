use Rattle.std.proofs.Common.{◌≡◌, length, set, arith, sym, ap, ◌∙◌}
use Rattle.std.specs.List.{zip}
use Rattle.std.specs.Map.{keys_of}
use Rattle.wb_arrays.specs.Pieces.{lists_of, merged}
use Rattle.wb_arrays.proofs.Parts.{length-lists_of}
use Rattle.wb_arrays.proofs.Replaced.{keys-numbered, some_piece, first_is, replaced}
use Rattle.wb_arrays.proofs.pieces.Pieces.set_all.Goals as goal

pub set_first-requires-clause-some : goal.set_first-requires-clause-some
set_first-requires-clause-some g c =
    let p = c.self.inside in
    let cmp = g.D.Index.Ord.cmp in
    let locale = g.M.Mapping.locale p.mapping in
    let n = g.M.Mapping.locale_count p.mapping in
    let ps = lists_of p.pieces.items in
    let one : n ≡ 1 = ap (λ v. g.M.Mapping.locale_count v.1) c.self.view_is ∙ ap g.M.Mapping.locale_count (sym c.mapping.ensures.value)
    ∙ sym c.locales.ensures.count ∙ c.if-locales-ne1.false in
    omega (arith, some_piece cmp locale n p.size ps one c.self.invariant, length-lists_of p.pieces.items)

pub set_first-requires-clause-many : goal.set_first-requires-clause-many
set_first-requires-clause-many g c =
    let p = c.self.inside in
    let cmp = g.D.Index.Ord.cmp in
    let locale = g.M.Mapping.locale p.mapping in
    let n = g.M.Mapping.locale_count p.mapping in
    let ps = lists_of p.pieces.items in
    let one : n ≡ 1 = ap (λ v. g.M.Mapping.locale_count v.1) c.self.view_is ∙ ap g.M.Mapping.locale_count (sym c.mapping.ensures.value)
    ∙ sym c.locales.ensures.count ∙ c.if-locales-ne1.false in
    ap length (first_is cmp locale n p.size ps one c.self.invariant) ∙ sym c.self.invariant.count ∙ c.if-self-numbers.false

pub invariant_of-self : goal.invariant_of-self
invariant_of-self g c =
    let p = c.self.inside in
    let cmp = g.D.Index.Ord.cmp in
    let locale = g.M.Mapping.locale p.mapping in
    let n = g.M.Mapping.locale_count p.mapping in
    let ps = lists_of p.pieces.items in
    let one : n ≡ 1 = ap (λ v. g.M.Mapping.locale_count v.1) c.self.view_is ∙ ap g.M.Mapping.locale_count (sym c.mapping.ensures.value)
    ∙ sym c.locales.ensures.count ∙ c.if-locales-ne1.false in
    let es = merged cmp ps in
    (replaced cmp locale n p.size ps one c.self.invariant g.met.D.Index.Ord.total g.met.D.Index.Key.exact (lists_of c.set_first.new.pieces.items)
    (zip (keys_of es) c.args.numbers.now) (keys-numbered es c.args.numbers.now (sym c.self.invariant.count ∙ c.if-self-numbers.false))
    (c.set_first.ensures ∙ ap (λ xs. set ps 0 (zip (keys_of xs) c.args.numbers.now)) (first_is cmp locale n p.size ps one c.self.invariant))).1

pub returns-clause-done : goal.returns-clause-done
returns-clause-done g c = λ _.
    let p = c.self.inside in
    let cmp = g.D.Index.Ord.cmp in
    let locale = g.M.Mapping.locale p.mapping in
    let n = g.M.Mapping.locale_count p.mapping in
    let ps = lists_of p.pieces.items in
    let one : n ≡ 1 = ap (λ v. g.M.Mapping.locale_count v.1) c.self.view_is ∙ ap g.M.Mapping.locale_count (sym c.mapping.ensures.value)
    ∙ sym c.locales.ensures.count ∙ c.if-locales-ne1.false in
    let es = merged cmp ps in
    (replaced cmp locale n p.size ps one c.self.invariant g.met.D.Index.Ord.total g.met.D.Index.Key.exact (lists_of c.set_first.new.pieces.items)
    (zip (keys_of es) c.args.numbers.now) (keys-numbered es c.args.numbers.now (sym c.self.invariant.count ∙ c.if-self-numbers.false))
    (c.set_first.ensures ∙ ap (λ xs. set ps 0 (zip (keys_of xs) c.args.numbers.now)) (first_is cmp locale n p.size ps one c.self.invariant))).0
    ∙ ap (λ v. zip (keys_of v.0) c.args.numbers.now) c.self.view_is

pub returns-clause-indices : goal.returns-clause-indices
returns-clause-indices g c =
    let p = c.self.inside in
    let cmp = g.D.Index.Ord.cmp in
    let locale = g.M.Mapping.locale p.mapping in
    let n = g.M.Mapping.locale_count p.mapping in
    let ps = lists_of p.pieces.items in
    let one : n ≡ 1 = ap (λ v. g.M.Mapping.locale_count v.1) c.self.view_is ∙ ap g.M.Mapping.locale_count (sym c.mapping.ensures.value)
    ∙ sym c.locales.ensures.count ∙ c.if-locales-ne1.false in
    let es = merged cmp ps in
    ap keys_of ((replaced cmp locale n p.size ps one c.self.invariant g.met.D.Index.Ord.total g.met.D.Index.Key.exact (lists_of c.set_first.new.pieces.items)
    (zip (keys_of es) c.args.numbers.now) (keys-numbered es c.args.numbers.now (sym c.self.invariant.count ∙ c.if-self-numbers.false))
    (c.set_first.ensures ∙ ap (λ xs. set ps 0 (zip (keys_of xs) c.args.numbers.now)) (first_is cmp locale n p.size ps one c.self.invariant))).0)
    ∙ keys-numbered es c.args.numbers.now (sym c.self.invariant.count ∙ c.if-self-numbers.false) ∙ ap (λ v. keys_of v.0) c.self.view_is

pub returns-clause-many : goal.returns-clause-many
returns-clause-many g c = λ _. sym (ap (λ v. length v.0) (sym c.self.view_is) ∙ sym c.self.invariant.count ∙ c.if-self-numbers.false)
