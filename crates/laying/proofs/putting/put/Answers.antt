use Rattle.std.proofs.Common.{ap, ap₂, arith, refl, rules, ℕ, ◌%◌, ◌*◌, ◌+◌, ◌/◌, ◌^◌, ◌∙◌, ◌≤◌}
use Rattle.laying.specs.Laying.{set_wide, joined}
use Rattle.laying.proofs.Laws.{place-reach, few-held}
use Rattle.laying.proofs.Joined.{put-stored, put-held, put-past}
use Rattle.laying.proofs.putting.put.Goals as goal
use Rattle.laying.proofs.putting.put.Goals.{Then-bytes-out}

-- no more bits are held where eight bytes have room
few : (c : Then-bytes-out) → c.args.pen.held.0 ≤ 7
few c = let a = c.args in few-held a.out.now a.pen (omega arith) (omega arith)

pub overflow_add-n : goal.overflow_add-n
overflow_add-n c =
    let a = c.args in record { fits = omega (arith, place-reach a.out.now a.pen) }

pub join-y-requires : goal.join-y-requires
join-y-requires c =
    let f = few (goal.at.join-y-requires c).Then-bytes-out in search rules

pub overflow_mul-result : goal.overflow_mul-result
overflow_mul-result c =
    let f = few (goal.at.overflow_mul-result c).Then-bytes-out in search rules

pub overflow_shl-result : goal.overflow_shl-result
overflow_shl-result c =
    let f = few (goal.at.overflow_shl-result c).Then-bytes-out in search rules

pub overflow_add-bytes-then-bytes-out : goal.overflow_add-bytes-then-bytes-out
overflow_add-bytes-then-bytes-out c =
    let a = c.args in
    record { fits = omega (arith, few (goal.at.overflow_add-bytes-then-bytes-out c).Then-bytes-out, place-reach a.out.now a.pen) }

pub returns-then-bytes-out : goal.returns-then-bytes-out
returns-then-bytes-out c =
    let a = c.args in
    let there = c.raw-bytes.ensures in
    let many = ap (λ (k : ℕ). k + a.w) c.raw.ensures in
    let word = c.join-y.ensures ∙ ap (λ (k : ℕ). joined a.pen.word k a.v) many in
    put-stored a.out.now a.pen a.w a.v (omega arith) (omega arith) (omega arith) _ _ (omega arith)
    (c.store_whole.ensures ∙ ap₂ (set_wide a.out.now) there word)
    (ap₂ (λ (x k : ℕ). x * 2 ^ (k / 8 * 8) % 2 ^ 64) word many)
    (c.new.ensures ∙ ap (λ (k : ℕ). k % 8) many)
    (c.new-then-bytes-out.ensures ∙ ap₂ (λ (j k : ℕ). j + k / 8) there many)

pub returns-then-n-gt63 : goal.returns-then-n-gt63
returns-then-n-gt63 c =
    let a = c.args in
    let many = ap (λ (k : ℕ). k + a.w) c.raw.ensures in
    put-past a.out.now a.pen a.w a.v (omega arith) (omega arith) (omega arith) _ (omega arith) (omega arith) refl (c.new-held.ensures ∙ many) refl

pub returns : goal.returns
returns c =
    let a = c.args in
    let many = ap (λ (k : ℕ). k + a.w) c.raw.ensures in
    let word = c.join.ensures ∙ ap (λ (k : ℕ). joined a.pen.word k a.v) many in
    put-held a.out.now a.pen a.w a.v (omega arith) (omega arith) (omega arith) _ (omega arith) (omega arith) word (c.new-held.ensures ∙ many) refl
