-- Behind a word of a text stand the words from its end on.
use mathlib.Core.Path.{◌≡◌, sym, ◌∙◌}
use mathlib.Core.Bool.{Bool, true, false}
use mathlib.Core.List.{List, [], ◌∷◌}
use Prim.Native.Nat.{ℕ, zero, suc, ◌+◌, ◌≤◌, ◌<◌}
use native.Mathlib.Omega.{arith}
use lib.Dec.{eqb, ltb}
use lib.ListN.{length, get_or}
use borrow.Author.Tests.{eqb-true, eqb-false, ltb-true, ltb-false}
use Rattle.rules.proofs.Lists.{by_cases}
use Rattle.text.specs.Words.{TextWord, is_blank, text_words, words_at_line, words_from}
use Rattle.text.specs.Places.{word_at, Behind, Unclosed, LineEnds}
use Rattle.text.proofs.Lines.{unclosed_none, unclosed_more}
use Rattle.text.proofs.Words.{words_end, behind_word, words_blank, words_line, words_word, words_opened, comment_closed, comment_last}

-- a word is not none
unlike_none : {P : Type 0} {w : TextWord} {ws : List TextWord} → ◌≡◌ {A = List TextWord} [] (w ∷ ws) → P
unlike_none e = let z : ◌≡◌ {A = ℕ} 0 1 = cc in absurd (omega arith)

module _ (text : List ℕ) where
  -- every line ends somewhere
  line_ends : (k from at : ℕ) → length text ≤ at + k → Unclosed text from at → (r : ℕ) × LineEnds text from r
  line_ends zero from at enough u = (at, record { unclosed = u; closed = λ m. absurd (omega arith) })
  line_ends (suc k) from at enough u = by_cases (ltb at (length text))
      (λ t.
      let h = ltb-true at (length text) t in
      by_cases (eqb (get_or text at 0) 10)
      (λ e. (at, record { unclosed = u; closed = λ m. eqb-true (get_or text at 0) 10 e }))
      (λ e. line_ends k from (at + 1) (omega arith) (unclosed_more u h e)))
      (λ f. let h = ltb-false at (length text) f in (at, record { unclosed = u; closed = λ m. absurd (omega arith) }))

-- behind the word w stand ws, the words from its end on
pub record Followed (text : List ℕ) (w : TextWord) (ws : List TextWord) : Type 0 where
  pub rest : ws ≡ words_from false (w.at + length w.bytes) text
  pub behind : Behind text (w.at + length w.bytes)

module _ (text : List ℕ) (w : TextWord) (ws : List TextWord) where
  -- from a place on that is at most k bytes before the text's end, inside a line or at its start
  abbrev Inside : ℕ → Type 0
  Inside k = (first : Bool) (at : ℕ) → length text ≤ at + k → words_from first at text ≡ w ∷ ws → Followed text w ws

  abbrev AtLine : ℕ → Type 0
  AtLine k = (at : ℕ) → length text ≤ at + k → words_at_line at text ≡ w ∷ ws → Followed text w ws

  -- inside a line: no byte is left, a word is found, or a blank is passed
  past_end : (first : Bool) (at : ℕ) → length text ≤ at → words_from first at text ≡ w ∷ ws → Followed text w ws
  past_end first at h e = unlike_none (sym (words_end text first at h) ∙ e)

  at_word : (first : Bool) (at : ℕ) → at < length text → is_blank (get_or text at 0) ≡ false
      → words_from first at text ≡ w ∷ ws → Followed text w ws
  at_word first at h b e =
      let found = sym (words_word text first at h b) ∙ e in
      let word : record { at = at; first = first; bytes = word_at at text } ≡ w = cc in
      let rest : words_from false (at + length (word_at at text)) text ≡ ws = cc in
      rw (sym word) (record { rest = sym rest; behind = behind_word text at })

  inside : (k : ℕ) → Inside k → AtLine k → Inside (suc k)
  inside k words lines first at enough e = by_cases (ltb at (length text))
      (λ t.
      let h = ltb-true at (length text) t in
      by_cases (is_blank (get_or text at 0))
      (λ b. by_cases (eqb (get_or text at 0) 10)
      (λ l. lines (at + 1) (omega arith) (sym (words_line text first at h (eqb-true (get_or text at 0) 10 l)) ∙ e))
      (λ l. words first (at + 1) (omega arith) (sym (words_blank text first at h b (eqb-false (get_or text at 0) 10 l)) ∙ e)))
      (λ b. at_word first at h b e))
      (λ f. past_end first at (ltb-false at (length text) f) e)

  -- at the start of a line: it is no comment, or one that is passed
  past_comment : (k at : ℕ) → AtLine k → length text ≤ at + suc k → at < length text → get_or text at 0 ≡ 99
      → words_at_line at text ≡ w ∷ ws → Followed text w ws
  past_comment k at lines enough h b e =
      let (r, l) = line_ends text (suc k) at at enough (unclosed_none text at (omega arith)) in
      by_cases (ltb r (length text))
      (λ t. lines (r + 1) (omega (arith, l.unclosed.low)) (sym (comment_closed text at r l h b (ltb-true r (length text) t)) ∙ e))
      (λ f.
      let past = ltb-false r (length text) f in
      past_end true r past (sym (words_opened text r (λ m. absurd (omega arith))) ∙ sym (comment_last text at r l h b past) ∙ e))

  at_line : (k : ℕ) → Inside (suc k) → AtLine k → AtLine (suc k)
  at_line k words lines at enough e = by_cases (ltb at (length text))
      (λ t. by_cases (eqb (get_or text at 0) 99)
      (λ c. past_comment k at lines enough (ltb-true at (length text) t) (eqb-true (get_or text at 0) 99 c) e)
      (λ c. words true at enough (sym (words_opened text at (λ h. eqb-false (get_or text at 0) 99 c)) ∙ e)))
      (λ f.
      let past = ltb-false at (length text) f in
      words true at enough (sym (words_opened text at (λ m. absurd (omega arith))) ∙ e))

  both : (k : ℕ) → Inside k × AtLine k
  both zero = (
    λ first at enough e. past_end first at (omega arith) e,
    λ at enough e. past_end true at (omega arith) (sym (words_opened text at (λ m. absurd (omega arith))) ∙ e),
  )
  both (suc k) =
      let (words, lines) = both k in
      let words' = inside k words lines in
      (words', at_line k words' lines)

pub words_behind : (text : List ℕ) (first : Bool) (at : ℕ) {w : TextWord} {ws : List TextWord} → words_from first at text ≡ w ∷ ws → Followed text w ws
words_behind text first at {w} {ws} e = (both text w ws (length text)).0 first at (omega arith) e

pub words_behind_first : (text : List ℕ) {w : TextWord} {ws : List TextWord} → text_words text ≡ w ∷ ws → Followed text w ws
words_behind_first text {w} {ws} e = (both text w ws (length text)).1 0 (omega arith) e
