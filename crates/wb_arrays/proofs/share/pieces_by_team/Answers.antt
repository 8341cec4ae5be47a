use Rattle.std.proofs.Common.{◌≡◌, length, arith}
use Rattle.wb_arrays.specs.Pieces.{LieBelow}
use Rattle.wb_arrays.proofs.Sharing.{joined_pieces, joined_below}
use Rattle.wb_arrays.proofs.share.pieces_by_team.Goals as goal

pub returns-in-Ok-clause-pieces : goal.returns-in-Ok-clause-pieces
returns-in-Ok-clause-pieces g c =
    let n = c.args.team.now.count in
    let shares = c.in-Ok.shares.items in
    let all : length shares ≡ n = omega (arith, c.in-Ok.ensures.len, c.in-Ok.shares.ok.0) in
    joined_pieces (g.M.Mapping.locale c.args.to.now) c.args.pairs.now (g.M.Mapping.locale_count c.args.to.now) n c.args.team.now.some c.joined.result
    shares all c.joined.ensures.pieces c.joined.ensures.all (λ i d k. (c.in-Ok.ensures.each i d k).1.met.0)

pub returns-in-Ok-clause-below : goal.returns-in-Ok-clause-below
returns-in-Ok-clause-below g c =
    let n = c.args.team.now.count in
    let shares = c.in-Ok.shares.items in
    let all : length shares ≡ n = omega (arith, c.in-Ok.ensures.len, c.in-Ok.shares.ok.0) in
    let locale = g.M.Mapping.locale c.args.to.now in
    let locales = g.M.Mapping.locale_count c.args.to.now in
    joined_below locale c.args.pairs.now locales n c.args.team.now.some (LieBelow locale locales c.args.pairs.now) c.joined.result shares all
    c.joined.ensures.all (λ i d k. (c.in-Ok.ensures.each i d k).1.met.1)
