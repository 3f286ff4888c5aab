use Rattle.std.proofs.Common.{Bool, ne_eqb, true, ◌≡◌}
use Rattle.bits.specs.Language.{pick}
use Rattle.oamd.specs.declared.Kind.{Kind}
use Rattle.oamd.specs.declared.Kind.TheVariants.{Unknown}
use Rattle.oamd.specs.Element.{kind}
use Rattle.oamd.proofs.kinds.kind_of.Goals as goal

-- the test that the code made is the first of the definition
passed : (t : Bool) (k : Kind) → t ≡ true → Unknown ≡ pick t Unknown k
passed t k h = rw h

pub returns-then-other_data : goal.returns-then-other_data
unfolding kind
returns-then-other_data c =
    passed _ _ c.if-other_data.true

pub returns-in-1 : goal.returns-in-1
unfolding kind
returns-in-1 c =
    rw (c.if-other_data.false, c.in-1.is)

pub returns-in-2 : goal.returns-in-2
unfolding kind
returns-in-2 c =
    rw c.in-2.is

pub returns-in-5 : goal.returns-in-5
unfolding kind
returns-in-5 c =
    rw c.in-5.is

pub returns-in_default : goal.returns-in_default
unfolding kind
returns-in_default c =
    simp (ne_eqb _ _ c.in_default.in_default-own.rest.0.0.1, ne_eqb _ _ c.in_default.in_default-own.rest.0.1, ne_eqb _ _ c.in_default.in_default-own.rest.1)
