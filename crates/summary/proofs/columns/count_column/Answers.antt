use Rattle.std.proofs.Common.{List, ap, arith, get_or, map, suc, sym, ℕ, ◌*◌, ◌+◌, ◌-◌, ◌<◌, ◌∙◌, ◌≡◌, ◌≤◌}
use Rattle.bits.specs.Laws.{from_next, from_none}
use Rattle.oamd.specs.Tables.{record_stride}
use Rattle.summary.specs.Summary.{bytes_of_records}
use Rattle.summary.specs.Counting.{Low, bumped, all_bumped}
use Rattle.summary.specs.Laws.{length-bumped, low-bumped}
use Rattle.summary.proofs.columns.count_column.Invariants.{Left}
use Rattle.summary.proofs.columns.count_column.Goals as goal

turn : {room : List ℕ} {n k : ℕ} {counts₀ counts counts' : List ℕ} {i : ℕ} → Left room n k counts₀ counts i → i < n
    → counts' ≡ bumped (get_or room (record_stride * i + k) 0) counts → Left room n k counts₀ counts' (i + 1)
unfolding all_bumped
turn {room} {n} {k} {counts₀} {counts} {counts'} {i} d h e =
    let one : n - i ≡ suc (n - (i + 1)) = omega arith in
    let low : Low (suc (n - (i + 1))) counts = rw one at d.low in
    rw e (record {
      within = omega arith;
      low = low-bumped (n - (i + 1)) (get_or room (record_stride * i + k) 0) counts low;
      kept = length-bumped (get_or room (record_stride * i + k) 0) counts ∙ d.kept;
      all = sym (ap (λ (l : List ℕ). all_bumped (map (λ j. get_or room (record_stride * j + k) 0) l) counts) (from_next i n h)) ∙ d.all;
    })

ended : {room : List ℕ} {n k : ℕ} {counts₀ counts : List ℕ} {i : ℕ} → Left room n k counts₀ counts i → n ≤ i
    → counts ≡ all_bumped (bytes_of_records k n room) counts₀
unfolding all_bumped
ended {room} {n} {k} {counts₀} {counts} {i} d h =
    sym (ap (λ (l : List ℕ). all_bumped (map (λ j. get_or room (record_stride * j + k) 0) l) counts) (from_none i n h)) ∙ d.all

pub loop-i-preserved : goal.loop-i-preserved
loop-i-preserved c =
    turn c.loop-i.invariant (omega arith) c.count_one.ensures

pub returns : goal.returns
returns c =
    ended c.loop-i.invariant (omega arith)
