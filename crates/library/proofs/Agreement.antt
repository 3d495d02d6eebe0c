-- Any two outcomes that the promises of the archive's calls allow agree: in the numbers, and in what the public calls' own theorems say (demands).
use mathlib.Core.Path.{◌≡◌, sym, ap, ap₂, subst, ◌∙◌}
use mathlib.Core.List.{List}
use Prim.Native.Nat.{ℕ, ◌-◌, min}
use lib.IntN.{ℤ}
use lib.ListN.{length}
use Rattle.rules.specs.Answers.{numbers}
use Rattle.rules.specs.Results.{Answer}
use Rattle.lent_entries.specs.declared.Entry.{Entry}
use Rattle.lent.specs.declared.Carried.{Carried}
use Rattle.lent.specs.declared.Called.{Called}
use Rattle.line_read.specs.Machine.{Line}
use Rattle.call_give.specs.declared.Ended.{Ended}
use Rattle.dimacs.specs.Reading.{read_text, judged_text}
use Rattle.dimacs_frames.specs.Yields.{yields_into, yield_numbers}
use Rattle.dimacs_frames.specs.declared.Cursor.{Cursor}
use Rattle.call_demands.proofs.Agreement.{same_opening, Words, Agree, same_outcome, AgreeGiven, same_given, same_end}
use Rattle.library_back.specs.Handed.{Numbered, carried_after, reader_of, read_after}
use Rattle.library_back.specs.Told.{Told, judged_numbers}
use Rattle.library_back.specs.declared.CnfCounts.{CnfCounts}
use Rattle.library_back.specs.declared.Numbers.{Numbers}
use Rattle.library_back.specs.declared.Part.{Part}
use Rattle.library_back.specs.declared.Reading.{Reading}
use Rattle.library_back.specs.declared.Counts.{Counts}
use Rattle.library.specs.Exported.{OpenExported, StepExported, Names, GiveExported, EndExported}
use Rattle.library.specs.Texts.{JudgeExported, NextExported}

same_told : (n : ℕ × ℕ) {r q : Numbers} → Told n r → Told n q → r ≡ q
same_told n x y = ap₂ (λ c d. record { code = c; detail = d }) (x.0 ∙ sym y.0) (x.1 ∙ sym y.1)

same_numbers : {a b : Answer} {r q : Numbers} → Numbered a r → Numbered b q → a ≡ b → r ≡ q
same_numbers {a} {b} {r} {q} x y e = same_told (numbers b) (subst (λ (z : Answer). Numbered z r) e x) y

pub opens_agree : {vars : ℕ} {entries : List Entry} {pool : List ℤ} {carried : Carried} {r q : Numbers} {carried₁ carried₂ : Carried} →
    OpenExported vars entries pool carried r carried₁ → OpenExported vars entries pool carried q carried₂ → (r ≡ q) × (carried₁ ≡ carried₂)
opens_agree {vars} {entries} {pool} {carried} a b =
    let e = same_opening vars entries pool a.called b.called a.promised b.promised in (
      same_numbers a.answered b.answered (ap (λ (x : Called). x.answer) e),
      a.handed_back ∙ ap (λ (x : Called). carried_after x.answer x.carried carried) e
          ∙ sym b.handed_back,
    )

pub steps_agree : {entries : List Entry} {pool : List ℤ} {carried : Carried} {frame : List ℤ} {model : List ℕ} {r q : Numbers}
    {entries₁ entries₂ : List Entry} {pool₁ pool₂ : List ℤ} {carried₁ carried₂ : Carried} {model₁ model₂ : List ℕ}
    (a : StepExported entries pool carried frame model r entries₁ pool₁ carried₁ model₁)
    (b : StepExported entries pool carried frame model q entries₂ pool₂ carried₂ model₂) → Words model₁ → Words model₂ →
    (r ≡ q) × Agree entries pool carried frame model a.called b.called entries₁ entries₂ pool₁ pool₂ model₁ model₂
steps_agree a b w v = let s = same_outcome a.promised b.promised w v in (same_numbers a.answered b.answered s.answers, s)

pub gives_agree : {entries : List Entry} {pool : List ℤ} {carried : Carried} {reading : Reading} {frame : List ℤ} {part out : List ℕ} {r q : Numbers}
    {entries₁ entries₂ : List Entry} {pool₁ pool₂ : List ℤ} {carried₁ carried₂ : Carried} {reading₁ reading₂ : Reading} {frame₁ frame₂ : List ℤ}
    {out₁ out₂ : List ℕ} {counts₁ counts₂ : Counts}
    (a : GiveExported entries pool carried reading frame part out r entries₁ pool₁ carried₁ reading₁ frame₁ out₁ counts₁)
    (b : GiveExported entries pool carried reading frame part out q entries₂ pool₂ carried₂ reading₂ frame₂ out₂ counts₂) →
    (r ≡ q) × (counts₁ ≡ counts₂) × (reading₁ ≡ reading₂)
    × AgreeGiven entries pool carried (reader_of reading) frame part out a.given b.given entries₁ entries₂ pool₁ pool₂ frame₁ frame₂ out₁ out₂
gives_agree {reading = reading} a b =
    let s = same_given a.promised b.promised in
    let l = s.lines_read in
    let read : a.given.reader ≡ b.given.reader =
    ap₂ (λ (d : ℕ) (x : Line). record { digits = d; word = x.word; spoilt = x.spoilt }) (ap (λ (x : Line). x.digits) l) l in (
      same_numbers a.answered b.answered s.answers,
      ap₂ (λ t w. record { taken = t; written = w }) (a.counted.0 ∙ s.taken ∙ sym b.counted.0) (a.counted.1 ∙ s.written ∙ sym b.counted.1),
      a.read_back ∙ ap₂ (λ x y. read_after x y reading) s.answers read ∙ sym b.read_back,
      s,
    )

pub ends_agree : {reading : Reading} {out : List ℕ} {r q : Numbers} {out₁ out₂ : List ℕ} {written₁ written₂ : ℕ} →
    EndExported reading out r out₁ written₁ → EndExported reading out q out₂ written₂ → (r ≡ q) × (out₁ ≡ out₂) × (written₁ ≡ written₂)
ends_agree {reading} {out} {out₁ = out₁} {out₂ = out₂} a b =
    let s = same_end (reader_of reading) out a.ended b.ended out₁ out₂ a.promised b.promised in (
      same_numbers a.answered b.answered (ap (λ (x : Ended). x.answer) s.0),
      s.1,
      a.counted ∙ ap (λ (x : Ended). x.written) s.0
          ∙ sym b.counted,
    )

pub parts_agree : (pool : List ℤ) (from many : ℕ) (words : List ℤ) (r q : Part) → Names pool from many words r → Names pool from many words q → r ≡ q
parts_agree pool from many words r q a b =
    let s = a.0.starts ∙ sym b.0.starts in
    ap₂ (λ x y. record { start = x; length = y }) s (a.0.long ∙ ap (λ x. min many (length pool - x)) s ∙ sym b.0.long)

pub judges_agree : {text : List ℕ} {cnf : CnfCounts} {r q : Numbers} {cnf₁ cnf₂ : CnfCounts} → JudgeExported text cnf r cnf₁ → JudgeExported text cnf q cnf₂ →
    (r ≡ q) × (cnf₁ ≡ cnf₂)
judges_agree {text} a b = (same_told (judged_numbers (judged_text (read_text text))) a.told b.told, a.handed_back ∙ sym b.handed_back)

pub nexts_agree : {text : List ℕ} {c : Cursor} {frame : List ℤ} {r q : Numbers} {c₁ c₂ : Cursor} {frame₁ frame₂ : List ℤ} →
    NextExported text c frame r c₁ frame₁ → NextExported text c frame q c₂ frame₂ → (r ≡ q) × (c₁ ≡ c₂) × (frame₁ ≡ frame₂)
nexts_agree {text} {c} {frame} a b =
    (same_told (yield_numbers (yields_into text c frame).0) a.told b.told, a.moved ∙ sym b.moved, a.handed_out ∙ sym b.handed_out)
