-- What reading a balance of a trim configuration promises: the steps of the definition that it takes, and the cursor between.
use Rattle.std.specs.Prelude.{Bool}
use Rattle.bits.specs.declared.Cur.{Cur}
use Rattle.bits.specs.declared.Limit.{Limit}
use Rattle.bits.specs.declared.Step.{Step}
use Rattle.bits.specs.Language.{Bits, bits_if}
use Rattle.bits.specs.View.{Reads}
use Rattle.syntax.specs.declared.Balance.{Balance}

pub record BalanceRead (on : Bool) (b : Bits) (c : Cur) (l : Limit) (r : Step Balance) : Type 0 where
  pub mid : Cur
  pub sign : Reads (bits_if on 1) b c l r.value.sign mid
  pub amount : Reads (bits_if on 4) b mid l r.value.amount r.cur
