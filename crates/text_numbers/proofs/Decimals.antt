-- A number that is written as digits is one word, and is read back.
use mathlib.Core.Path.{◌≡◌, refl, ap, ◌∙◌}
use mathlib.Core.Bool.{true, false}
use mathlib.Core.List.{List, [], ◌∷◌, ◌++◌}
use mathlib.Core.Option.{some}
use Prim.Native.Nat.{ℕ, zero, suc, ◌+◌, ◌/◌, ◌%◌, ◌<◌}
use native.Mathlib.Omega.{arith}
use lib.Dec.{ltb}
use lib.IntN.{ℤ, pos, negsuc}
use lib.ListN.{length, length-append}
use borrow.Author.Tests.{ltb-true, ltb-false, lt-ltb, le-leb, ne_eqb}
use Rattle.rules.specs.Lists.{all_pass}
use Rattle.rules.proofs.Lists.{by_cases, and_both, all_nil, all_cons, all_append, all_head}
use Rattle.text.specs.Words.{is_comment}
use Rattle.text.specs.Places.{word_bytes}
use Rattle.text_numbers.specs.Numbers.{is_decimal, said_on, natural_of, plus_of, minus_of, integer_of, decimal_in, decimal, signed_decimal}
use Rattle.text_numbers.specs.Told.{ends_word}
use Rattle.text_numbers.proofs.Saying.{said_snoc, decimal_bounds, digits_whole, natural}

-- ---- digits

digit : (d : ℕ) → d < 10 → is_decimal (d + 48) ≡ true
digit d h = and_both (le-leb 48 (d + 48) (omega arith)) (lt-ltb (d + 48) 58 (omega arith))

decimal_digits : (k n : ℕ) → all_pass is_decimal (decimal_in k n) ≡ true
unfolding decimal_in
decimal_digits zero n = all_nil is_decimal
decimal_digits (suc k) n = by_cases (ltb n 10)
    (λ t. rw t (all_cons is_decimal (n + 48) [] (digit n (ltb-true n 10 t)) (all_nil is_decimal)))
    (λ f. rw f (all_append is_decimal (decimal_in k (n / 10)) _ (decimal_digits k (n / 10))
    (all_cons is_decimal (n % 10 + 48) [] (digit (n % 10) (omega arith)) (all_nil is_decimal))))

decimal_some : (k n : ℕ) → 0 < length (decimal_in (suc k) n)
unfolding decimal_in
decimal_some k n = by_cases (ltb n 10) (λ t. rw t (omega arith)) (λ f. rw (f, length-append) (omega arith))

decimal_said : (k n : ℕ) → n < k → said_on 0 (decimal_in k n) ≡ n
unfolding decimal_in said_on
decimal_said zero n h = absurd (omega arith)
decimal_said (suc k) n h = by_cases (ltb n 10)
    (λ t. rw t (omega arith))
    (λ f. let many = ltb-false n 10 f in rw (f, said_snoc, decimal_said k (n / 10) (omega arith)) (omega arith))

pub natural_decimal : (n : ℕ) → natural_of (decimal n) ≡ some n
natural_decimal n = natural (decimal n) (decimal_some n n) (decimal_digits (suc n) n) ∙ ap some (decimal_said (suc n) n (omega arith))

-- ---- with a sign

-- digits start with no minus, and with no c
digits_unsigned : (w : List ℕ) → 0 < length w → all_pass is_decimal w ≡ true → integer_of w ≡ plus_of (natural_of w)
unfolding integer_of
digits_unsigned [] h a = absurd (omega arith)
digits_unsigned (b ∷ w) h a = rw (ne_eqb b 45 (λ e. omega (arith, decimal_bounds b (all_head is_decimal b w a))))

digits_uncommented : (w ys : List ℕ) → 0 < length w → all_pass is_decimal w ≡ true → is_comment (w ++ ys) ≡ false
digits_uncommented [] ys h a = absurd (omega arith)
digits_uncommented (b ∷ w) ys h a = ne_eqb b 99 (λ e. omega (arith, decimal_bounds b (all_head is_decimal b w a)))

pub integer_signed : (l : ℤ) → integer_of (signed_decimal l) ≡ some l
unfolding integer_of
integer_signed (pos n) = digits_unsigned (decimal n) (decimal_some n n) (decimal_digits (suc n) n) ∙ ap plus_of (natural_decimal n)
integer_signed (negsuc n) = ap minus_of (natural_decimal (suc n))

pub signed_some : (l : ℤ) → 0 < length (signed_decimal l)
signed_some (pos n) = decimal_some n n
signed_some (negsuc n) = omega arith

pub signed_whole : (l : ℤ) (ys : List ℕ) → ends_word ys ≡ true → word_bytes (signed_decimal l ++ ys) ≡ signed_decimal l
unfolding word_bytes
signed_whole (pos n) ys e = digits_whole (decimal n) ys (decimal_digits (suc n) n) e
signed_whole (negsuc n) ys e = ap (λ (w : List ℕ). 45 ∷ w) (digits_whole (decimal (suc n)) ys (decimal_digits (suc (suc n)) (suc n)) e)

pub signed_uncommented : (l : ℤ) (ys : List ℕ) → is_comment (signed_decimal l ++ ys) ≡ false
signed_uncommented (pos n) ys = digits_uncommented (decimal n) ys (decimal_some n n) (decimal_digits (suc n) n)
signed_uncommented (negsuc n) ys = refl
