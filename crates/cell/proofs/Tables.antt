-- The rules gathered for a call fit in memory where their lengths take few bytes.
use Rattle.std.proofs.Common.{ℕ, ◌+◌, ◌-◌, ◌*◌, ◌%◌, ◌<◌, ◌≤◌, max, arith}
use native.Mathlib.Nat.{mod-le}
use prog.Memory.{size, align, up}
use prog.RawLaws.{size-raw, align-raw}
use denote.Param.{layout}
use denote.RattleType.{RattleType}
use Rattle.lengths.specs.Stored.{stored_bytes}

-- rounding up to a multiple of k adds at most k
up_bound : (k e : ℕ) → up k e ≤ e + k
up_bound k e = omega (arith, mod-le (k - e % k) k)

-- the alignment of a numbered rule with a gap of this alignment, and its bytes with a gap of this size
abbrev pub rule_align : ℕ → ℕ
rule_align a = max 4 (max (max 2 (max 2 (max a 1))) 1)

abbrev pub rule_bytes : ℕ → ℕ → ℕ
rule_bytes a s = up (rule_align a) (up (max 2 (max 2 (max a 1))) 4 + up (max 2 (max 2 (max a 1))) (up a 4 + s))

-- the bytes of room for 12,543 of them and their count
abbrev pub gathered_bytes : ℕ → ℕ → ℕ
gathered_bytes a s = up (max (rule_align a) 8) (up 8 (up (rule_align a) 0 + 12543 * rule_bytes a s) + 8)

pub gathered_fits : (T : RattleType) → stored_bytes T ≤ 4096 → gathered_bytes (align (layout T)) (size (layout T)) < 9223372036854775808
gathered_fits T few =
    let a = align (layout T) in
    let s = size (layout T) in
    let p = size-raw (layout T) in
    let q = align-raw (layout T) in
    let b = max 2 (max 2 (max a 1)) in
    let u = up_bound a 4 in
    let v = up_bound b (up a 4 + s) in
    let x = up_bound b 4 in
    let y = up_bound (rule_align a) (up b 4 + up b (up a 4 + s)) in
    let z = up_bound (rule_align a) 0 in
    let f = up_bound 8 (up (rule_align a) 0 + 12543 * rule_bytes a s) in
    let h = up_bound (max (rule_align a) 8) (up 8 (up (rule_align a) 0 + 12543 * rule_bytes a s) + 8) in
    omega arith
