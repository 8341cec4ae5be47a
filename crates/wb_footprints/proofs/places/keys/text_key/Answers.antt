use Rattle.std.proofs.Common.{◌≡◌, ◌+◌, ◌-◌, ◌*◌, ◌<◌, ◌≤◌, ◌^◌, suc, drop, refl, sym, ap, ◌∙◌, arith, pow-add}
use Rattle.std.proofs.Math.Nat.{pow-le-pow_right}
use Rattle.wb_footprints.specs.Keys.{with_bytes}
use Rattle.wb_footprints.proofs.InTexts.{next_byte}
use Rattle.wb_footprints.proofs.places.keys.text_key.Goals as goal

-- the number so far is below 2^48
pub overflow_mul-key : goal.overflow_mul-key
overflow_mul-key c =
    let low : c.loop-at.at ≤ 6 = omega (arith, c.loop-at-test.true) in
    let power : 256 ^ c.loop-at.at ≤ 256 ^ 6 = pow-le-pow_right (omega arith) low in
    omega (arith, power, c.loop-at.invariant.small)

pub overflow_add-key : goal.overflow_add-key
overflow_add-key c =
    let low : c.loop-at.at ≤ 6 = omega (arith, c.loop-at-test.true) in
    let power : 256 ^ c.loop-at.at ≤ 256 ^ 6 = pow-le-pow_right (omega arith) low in
    omega (arith, power, c.loop-at.invariant.small, c.byte_at.ensures.byte)

pub loop-at-init : goal.loop-at-init
loop-at-init c = record { key = refl; small = omega arith }

pub loop-at-preserved : goal.loop-at-preserved
loop-at-preserved c =
    let i = c.loop-at.at in
    let k = c.loop-at.key in
    let t = c.args.text.now in
    let low : i < 7 = omega (arith, c.loop-at-test.true) in
    let e : suc (7 - (i + 1)) ≡ 7 - i = omega (arith, low) in
    record {
      key = ap (λ b. with_bytes (k * 256 + b) (7 - (i + 1)) (drop (i + 1) t)) c.byte_at.ensures.value
          ∙ sym (next_byte (7 - (i + 1)) k i t)
          ∙ ap (λ n. with_bytes k n (drop i t)) e
          ∙ c.loop-at.invariant.key;
      small = omega (arith, pow-add 256 i 1, c.loop-at.invariant.small, c.byte_at.ensures.byte);
    }

pub returns : goal.returns
returns c =
    let t = c.args.text.now in
    let end : 7 - c.loop-at.at ≡ 0 = omega (arith, c.loop-at-test.false) in
    let same : c.loop-at.key ≡ with_bytes 0 7 t = sym (ap (λ n. with_bytes c.loop-at.key n (drop c.loop-at.at t)) end) ∙ c.loop-at.invariant.key in
    omega (arith, same)
