-- The public functions of bits.
use Rattle.std.specs.Prelude.{◌≡◌, refl, ℕ, ◌*◌, ◌/◌, ◌^◌}
use Rattle.std.proofs.Common.{sym, ap, ◌∙◌}
use Rattle.std.specs.Coded.{coded_ℕ}
use Rattle.std.specs.declared.clone.Clone as Clone
use denote.RattleType.{RattleType}
use mir.Syntax.{Dict}
use Rattle.bits.specs.contracts.Size as size
use Rattle.bits.specs.contracts.close as close
use Rattle.bits.specs.contracts.inner_of as inner_of
use Rattle.bits.specs.contracts.look as look
use Rattle.bits.specs.contracts.look_if as look-if
use Rattle.bits.specs.contracts.open as opens
use Rattle.bits.specs.contracts.read_size as read-size
use Rattle.bits.specs.contracts.refuse_if as refuse-if
use Rattle.bits.specs.contracts.skip_if as skip-if
use Rattle.bits.specs.contracts.take as take
use Rattle.bits.specs.contracts.take_if as take-if
use Rattle.bits.specs.contracts.take_unless as take-unless
use Rattle.bits.specs.contracts.window as window
use Rattle.bits.specs.contracts.with_value as with_value
use Rattle.bits.specs.contracts.word as word
use Rattle.bits.specs.declared.Cur.{Cur}
use Rattle.bits.specs.declared.Refusal.{Refusal}
use Rattle.bits.specs.Language.{bit, bits, between, bits_if, bits_unless, skip, when, refuse_if}
use Rattle.bits.specs.Refusals.{number_of}
use Rattle.bits.specs.Size.{variable_bits_max}
use Rattle.bits.specs.Unique.{one-reads, one-gave}
use Rattle.bits.specs.View.{word_at, wide_at, Reads, Gave, valued}
use Rattle.bits.specs.contracts.as_flag as as-flag
use Rattle.bits.specs.contracts.both as both
use Rattle.bits.specs.contracts.choice as choice
use Rattle.bits.specs.contracts.chosen as chosen
use Rattle.bits.specs.contracts.either as either
use Rattle.bits.specs.contracts.flag as flag
use Rattle.bits.specs.contracts.less as less
use Rattle.bits.specs.contracts.minus as minus
use Rattle.bits.specs.contracts.number as number
use Rattle.bits.specs.contracts.Refusal.number as refusal-number
use Rattle.bits.specs.contracts.pick as pick
use Rattle.unique.specs.OneAnswer.{OneAnswer, by_relation, by_equation, said, result-set, ◌beside◌}
use Rattle.unique.specs.Readings.{holding, giving, TookBy, took-once, GaveBy, gave-once, reading-set}

pub one-open : OneAnswer opens.ended (λ M 𝓤 𝓛. opens.clauses 𝓛) (λ M 𝓤 𝓛. opens.spec 𝓛) (λ κs a. a) (λ κs a r z. r)
one-open = by_equation (result-set opens.ended) (λ w. refl) _ (λ w κs a r z p. said (λ h. h) p.holds)

pub one-inner_of : OneAnswer inner_of.ended (λ M 𝓤 𝓛. inner_of.clauses 𝓛) (λ M 𝓤 𝓛. inner_of.spec 𝓛) (λ κs a. a) (λ κs a r z. r)
one-inner_of = by_equation (result-set inner_of.ended) (λ w. refl) _ (λ w κs a r z p. said (λ h. h) p.holds)

pub one-close : OneAnswer close.ended (λ M 𝓤 𝓛. close.clauses 𝓛) (λ M 𝓤 𝓛. close.spec 𝓛) (λ κs a. a) (λ κs a r z. r)
one-close = by_equation (result-set close.ended) (λ w. refl) _ (λ w κs a r z p. said (λ h. h) p.holds)

pub one-with_value : OneAnswer with_value.ended (λ M 𝓤 𝓛. with_value.clauses 𝓛) (λ M 𝓤 𝓛. with_value.spec 𝓛) (λ κs a. a) (λ κs a r z. r)
one-with_value = by_equation (result-set with_value.ended) (λ w. refl) _ (λ w κs a r z p. said (λ h. h) p.holds)

pub one-word : OneAnswer word.ended (λ M 𝓤 𝓛. word.clauses 𝓛) (λ M 𝓤 𝓛. word.spec 𝓛) (λ κs a. a.0.now beside a.1) (λ κs a r z. r)
one-word = by_equation (result-set word.ended) (λ w. refl) (λ i. word_at i.0 (i.1.0.0 / 8)) (λ w κs a r z p. said (λ h. h) p.holds)

pub one-window : OneAnswer window.ended (λ M 𝓤 𝓛. window.clauses 𝓛) (λ M 𝓤 𝓛. window.spec 𝓛) (λ κs a. a.0.now beside a.1) (λ κs a r z. r)
one-window = by_equation (result-set window.ended) (λ w. refl) (λ i. wide_at i.0 (i.1.0.0 / 8)) (λ w κs a r z p. said (λ h. h.0) p.holds)

pub one-look : OneAnswer look.ended (λ M 𝓤 𝓛. look.clauses 𝓛) (λ M 𝓤 𝓛. look.spec 𝓛) (λ κs a. a) (λ κs a r z. r)
one-look = by_equation (result-set look.ended) (λ w. refl) _ (λ w κs a r z p. said (λ h. h.0) p.holds)

pub one-look_if : OneAnswer look-if.ended (λ M 𝓤 𝓛. look-if.clauses 𝓛) (λ M 𝓤 𝓛. look-if.spec 𝓛) (λ κs a. a) (λ κs a r z. r)
one-look_if = by_equation (result-set look-if.ended) (λ w. refl) _ (λ w κs a r z p. said (λ h. h.0) p.holds)

pub one-take : OneAnswer take.ended (λ M 𝓤 𝓛. take.clauses 𝓛) (λ M 𝓤 𝓛. take.spec 𝓛) (λ κs a. a.0.now beside a.1) (λ κs a r z. holding r)
one-take =
    by_relation (λ κs. reading-set coded_ℕ) (λ w. refl) (TookBy _ _) (took-once (λ i. bits i.1.1.1.0) (λ i. 2 ^ i.1.1.1.0))
    (λ w κs a r z p. said (λ h. (r, h, refl)) p.holds)

pub one-take_if : OneAnswer take-if.ended (λ M 𝓤 𝓛. take-if.clauses 𝓛) (λ M 𝓤 𝓛. take-if.spec 𝓛)
    (λ κs a. a.1.0.now beside a.1.1.0 beside a.1.1.1.0 beside a.0 beside a.1.1.1.1) (λ κs a r z. holding r)
one-take_if =
    by_relation (λ κs. reading-set coded_ℕ) (λ w. refl) (TookBy _ _) (took-once (λ i. bits_if i.1.1.1.0 i.1.1.1.1.0) (λ i. 2 ^ i.1.1.1.1.0))
    (λ w κs a r z p. said (λ h. (r, h, refl)) p.holds)

pub one-take_unless : OneAnswer take-unless.ended (λ M 𝓤 𝓛. take-unless.clauses 𝓛) (λ M 𝓤 𝓛. take-unless.spec 𝓛)
    (λ κs a. a.1.0.now beside a.1.1.0 beside a.1.1.1.0 beside a.0 beside a.1.1.1.1) (λ κs a r z. holding r)
one-take_unless =
    by_relation (λ κs. reading-set coded_ℕ) (λ w. refl) (TookBy _ _)
    (took-once (λ i. when i.1.1.1.0 (bits_unless (number_of Refusal.Reserved) i.1.1.1.1.0 (between i.1.1.1.1.1.0 i.1.1.1.1.1.1.0)) 0)
    (λ i. 2 ^ i.1.1.1.1.0))
    (λ w κs a r z p. said (λ h. (r, h, refl)) p.holds)

-- Where the value is known too, the cursor is one.
cursor-once : (d d' : Cur) (v : ℕ) → d.v ≡ v → d'.v ≡ v → valued d 0 ≡ valued d' 0 → d ≡ d'
cursor-once d d' v h h' same = ap (λ (x : ℕ). valued d x) (h ∙ sym h') ∙ ap (λ (x : Cur). valued x d'.v) same

pub one-refuse_if : OneAnswer refuse-if.ended (λ M 𝓤 𝓛. refuse-if.clauses 𝓛) (λ M 𝓤 𝓛. refuse-if.spec 𝓛)
    (λ κs a. a.1.0.now beside a.1.1.0 beside a.1.1.1.0 beside a.0 beside a.1.1.1.1) (λ κs a r z. r)
one-refuse_if =
    by_relation (result-set refuse-if.ended) (λ w. refl)
    (λ i d. (d.v ≡ i.1.1.0.v)
    × Reads (refuse_if i.1.1.1.0 (number_of i.1.1.1.1.0) i.1.1.1.1.1.0 i.1.1.0.v) (bit i.0) i.1.1.0 i.1.0 d.v d)
    (λ i d d' g g'. cursor-once d d' i.1.1.0.v g.0 g'.0 (one-reads g.1 g'.1).0)
    (λ w κs a r z p. said (λ h. h) p.holds)

pub one-skip_if : OneAnswer skip-if.ended (λ M 𝓤 𝓛. skip-if.clauses 𝓛) (λ M 𝓤 𝓛. skip-if.spec 𝓛)
    (λ κs a. a.1.0.now beside a.1.1.0 beside a.1.1.1.0 beside a.0 beside a.1.1.1.1) (λ κs a r z. r)
one-skip_if =
    by_relation (result-set skip-if.ended) (λ w. refl)
    (λ i d. Gave (when i.1.1.1.0 (skip (8 * i.1.1.1.1.0.0)) 0) (bit i.0) i.1.1.0 i.1.0 0 d)
    (λ i d d' g g'. (one-gave g g').0)
    (λ w κs a r z p. said (λ h. h) p.holds)

pub one-read_size : OneAnswer read-size.ended (λ M 𝓤 𝓛. read-size.clauses 𝓛) (λ M 𝓤 𝓛. read-size.spec 𝓛)
    (λ κs a. a.0.now beside a.1) (λ κs a r z. giving r.value r.cur)
one-read_size =
    by_relation (λ κs. reading-set (size.the_row).coded) (λ w. refl) (GaveBy _) (gave-once (λ i. variable_bits_max))
    (λ w κs a r z p. said (λ h. (r.value, r.cur, h.2, refl)) p.holds)

pub one-flag : OneAnswer flag.ended (λ M 𝓤 𝓛. flag.clauses 𝓛) (λ M 𝓤 𝓛. flag.spec 𝓛) (λ κs a. a) (λ κs a r z. r)
one-flag = by_equation (result-set flag.ended) (λ w. refl) _ (λ w κs a r z p. said (λ h. h) p.holds)

-- at every type that can be copied; the choices of numbers among them
abbrev pub OnePick : Type 2
OnePick = (T : RattleType) (g : Clone.Ghosts T.Denot) (d : Dict)
    → OneAnswer (pick.ended T g d) (λ M 𝓤 𝓛. pick.clauses T g d 𝓛) (λ M 𝓤 𝓛. pick.spec T g d 𝓛) (λ κs a. a) (λ κs a r z. r)

pub one-pick : OnePick
one-pick T g d = by_equation (result-set (pick.ended T g d)) (λ w. refl) _ (λ w κs a r z p. said (λ h. h) p.holds)

pub one-choice : OneAnswer choice.ended (λ M 𝓤 𝓛. choice.clauses 𝓛) (λ M 𝓤 𝓛. choice.spec 𝓛) (λ κs a. a) (λ κs a r z. r)
one-choice = by_equation (result-set choice.ended) (λ w. refl) _ (λ w κs a r z p. said (λ h. h) p.holds)

pub one-chosen : OneAnswer chosen.ended (λ M 𝓤 𝓛. chosen.clauses 𝓛) (λ M 𝓤 𝓛. chosen.spec 𝓛) (λ κs a. a) (λ κs a r z. r)
one-chosen = by_equation (result-set chosen.ended) (λ w. refl) _ (λ w κs a r z p. said (λ h. h) p.holds)

pub one-as_flag : OneAnswer as-flag.ended (λ M 𝓤 𝓛. as-flag.clauses 𝓛) (λ M 𝓤 𝓛. as-flag.spec 𝓛) (λ κs a. a) (λ κs a r z. r)
one-as_flag = by_equation (result-set as-flag.ended) (λ w. refl) _ (λ w κs a r z p. said (λ h. h) p.holds)

pub one-both : OneAnswer both.ended (λ M 𝓤 𝓛. both.clauses 𝓛) (λ M 𝓤 𝓛. both.spec 𝓛) (λ κs a. a) (λ κs a r z. r)
one-both =
    by_equation (result-set both.ended) (λ w. refl) _
    (λ w κs a r z p. said (λ h. h) p.holds)

pub one-either : OneAnswer either.ended (λ M 𝓤 𝓛. either.clauses 𝓛) (λ M 𝓤 𝓛. either.spec 𝓛) (λ κs a. a) (λ κs a r z. r)
one-either = by_equation (result-set either.ended) (λ w. refl) _ (λ w κs a r z p. said (λ h. h) p.holds)

pub one-less : OneAnswer less.ended (λ M 𝓤 𝓛. less.clauses 𝓛) (λ M 𝓤 𝓛. less.spec 𝓛) (λ κs a. a) (λ κs a r z. r)
one-less = by_equation (result-set less.ended) (λ w. refl) _ (λ w κs a r z p. said (λ h. h) p.holds)

pub one-minus : OneAnswer minus.ended (λ M 𝓤 𝓛. minus.clauses 𝓛) (λ M 𝓤 𝓛. minus.spec 𝓛) (λ κs a. a) (λ κs a r z. r)
one-minus = by_equation (result-set minus.ended) (λ w. refl) _ (λ w κs a r z p. said (λ h. h) p.holds)

pub one-refusal-number : OneAnswer refusal-number.ended (λ M 𝓤 𝓛. refusal-number.clauses 𝓛) (λ M 𝓤 𝓛. refusal-number.spec 𝓛) (λ κs a. a) (λ κs a r z. r)
one-refusal-number = by_equation (result-set refusal-number.ended) (λ w. refl) _ (λ w κs a r z p. said (λ h. h.0) p.holds)

pub one-number : OneAnswer number.ended (λ M 𝓤 𝓛. number.clauses 𝓛) (λ M 𝓤 𝓛. number.spec 𝓛) (λ κs a. a) (λ κs a r z. r)
one-number = by_equation (result-set number.ended) (λ w. refl) _ (λ w κs a r z p. said (λ h. h.0) p.holds)
