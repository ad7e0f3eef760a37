use Rattle.std.proofs.Common.{◌≡◌, ◌≤◌, ◌<◌, ◌+◌, arith, length, min, ℕ, suc}
use Rattle.fast_check_tables_packages.specs.Texts.{common}
use Rattle.fast_check_tables_packages.proofs.Begun.{one_more, no_longer, common_within, common_within_other}
use Rattle.fast_check_tables_packages.proofs.texts.common_length.Goals as goal

left : (n m a b : ℕ) → m ≡ min a b → n < m → n < a
left n m a b e h = omega arith

right : (n m a b : ℕ) → m ≡ min a b → n < m → n < b
right n m a b e h = omega arith

next : (n c : ℕ) → suc n ≤ c → n + 1 ≤ c
next n c h = omega arith

all : (n m a b c : ℕ) → m ≡ min a b → m ≤ n → n ≤ c → c ≤ a → c ≤ b → m ≡ c
all n m a b c e f g h i = omega arith

pub returns-then-text-place : goal.returns-then-text-place
returns-then-text-place c =
    let x = c.args.text.now in
    let y = c.args.other.now in
    no_longer c.loop-place.place x y c.loop-place.invariant
    (left c.loop-place.place c.min-shorter.result (length x) (length y) c.min-shorter.ensures c.loop-place-test.true)
    (right c.loop-place.place c.min-shorter.result (length x) (length y) c.min-shorter.ensures c.loop-place-test.true)
    c.if-text-place.true

pub loop-place-preserved : goal.loop-place-preserved
loop-place-preserved c =
    let x = c.args.text.now in
    let y = c.args.other.now in
    next c.loop-place.place (common x y) (one_more c.loop-place.place x y c.loop-place.invariant
    (left c.loop-place.place c.min-shorter.result (length x) (length y) c.min-shorter.ensures c.loop-place-test.true)
    (right c.loop-place.place c.min-shorter.result (length x) (length y) c.min-shorter.ensures c.loop-place-test.true)
    c.if-text-place.false)

pub returns : goal.returns
returns c =
    let x = c.args.text.now in
    let y = c.args.other.now in
    all c.loop-place.place c.min-shorter.result (length x) (length y) (common x y) c.min-shorter.ensures c.loop-place-test.false
    c.loop-place.invariant (common_within x y) (common_within_other x y)
