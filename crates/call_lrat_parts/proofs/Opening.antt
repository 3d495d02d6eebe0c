-- From the rules of a text in a working table to the rows, and from the rows put back to what opening promises of what is lent.
use mathlib.Core.Path.{◌≡◌, refl, ap, ◌∙◌}
use mathlib.Core.Bool.{true, false}
use mathlib.Core.List.{List, map}
use mathlib.Core.Option.{some}
use Prim.Native.Nat.{ℕ, ◌≤◌}
use native.Mathlib.Omega.{arith}
use lib.IntN.{ℤ}
use lib.ListN.{length, take, length-map}
use Rattle.rules.specs.Terms.{State, in_range}
use Rattle.rules.specs.Answers.{lent, check_open}
use Rattle.rules.specs.Results.{Check}
use Rattle.rules.proofs.Lists.{by_cases, all_nil}
use Rattle.lit_sets.proofs.Sets.{zeros_empty}
use Rattle.table_slices.specs.Writes.{over}
use Rattle.table_slices.proofs.Slices.{take_over}
use Rattle.table.specs.Spelled as working
use Rattle.table.specs.Spelled.{Row}
use Rattle.table.specs.declared.Table.{Table}
use Rattle.table_room.specs.Room.{Squeezed}
use Rattle.dimacs.specs.Reading.{Read, faulty, sound, Cnf, fault_numbers, read_text}
use Rattle.dimacs.specs.declared.TextFault.{TextFault}
use Rattle.dimacs.proofs.Bodies.{text_body}
use Rattle.lent.specs.Stored.{Stores}
use Rattle.lent.specs.declared.Carried.{Carried}
use Rattle.lent_entries.specs.Lent.{entry_of, row_of}
use Rattle.lent_entries.specs.declared.Entry.{Entry}
use Rattle.lent_open.specs.Opened.{opened_with}
use Rattle.lent_open.proofs.Opened.{opens}
use Rattle.lrat.specs.Checking.{answer, opened_for}
use Rattle.lrat.specs.Machine.{started}
use Rattle.lrat.proofs.Whole.{filled_size}
use Rattle.lrat_fill.specs.Filling.{Fills}
use Rattle.std.specs.Prelude.{Ok, Err}
use Rattle.lrat_fill.specs.declared.Unfilled.TheVariants.{Faulty, Full}
use Rattle.call_lrat_parts.specs.Parts.{is_reading, met, session, Rules, unopened, no_room, holding, by_text, rules_of, LratOpens, LratOpening}
use Rattle.call_lrat_parts.specs.Running.{proof_left, proof_stored, fresh_reading, OpensOn, OpenRun}
use Rattle.call_lrat_parts.specs.declared.ProofReading.{ProofReading}
use Rattle.lent_entries.specs.declared.Ran.{Ran}
use Rattle.call_lrat_parts.specs.declared.LratGiven.{LratGiven}
use Rattle.call_lrat_parts.proofs.Running.{goes_back}

-- ---- the working table

module _ (n : ℕ) (pool : List ℤ) (c : Carried) (r : ProofReading) (cnf : List ℕ) where
  pub unlent : lent n (length pool) ≡ false → {rows' : List Row} → OpenRun n pool c r cnf (proof_left (answer 1 0) c r) rows' pool
  unlent f = record { bounded = (omega arith, omega arith); opens = rw f (refl, refl) }

  module _ (t : lent n (length pool) ≡ true) (stack : List ℕ) {rows₁ : List Row} {pool₁ : List ℤ} where
    -- a text with a fault
    pub faulted : (f : TextFault) → Fills n (read_text cnf) (Err (Faulty f)) rows₁ pool pool₁ stack →
        OpenRun n pool c r cnf (proof_left (answer (fault_numbers f).0 (fault_numbers f).1) c r) rows₁ pool₁
    faulted f h = record { bounded = (omega arith, omega arith); opens = rw t (by_read (read_text cnf) h) }
      where
        by_read : (x : Read Cnf) → Fills n x (Err (Faulty f)) rows₁ pool pool₁ stack →
            OpensOn (by_text n (length pool) x) n pool c r (proof_left (answer (fault_numbers f).0 (fault_numbers f).1) c r) rows₁ pool₁
        by_read (faulty g) d =
            let e : f ≡ g = cc in
            (ap (λ (x : TextFault). proof_left (answer (fault_numbers x).0 (fault_numbers x).1) c r) e, d.1)
        by_read (sound x) d = absurd d.fills

    -- no room for its rules
    pub no_room_left : (code vars : ℕ) → Fills n (read_text cnf) (Err (Full code vars)) rows₁ pool pool₁ stack →
        OpenRun n pool c r cnf (proof_left (answer code 0) (opened_with vars (check_open vars n (length pool₁))).carried r) rows₁ pool₁
    no_room_left code vars h = record { bounded = (omega arith, omega arith); opens = rw t (by_read (read_text cnf) refl h) }
      where
        by_read : (x : Read Cnf) → read_text cnf ≡ x → Fills n x (Err (Full code vars)) rows₁ pool pool₁ stack →
            OpensOn (by_text n (length pool) x) n pool c r
            (proof_left (answer code 0) (opened_with vars (check_open vars n (length pool₁))).carried r) rows₁ pool₁
        by_read (faulty g) e d = let q = d.0 in let z : ◌≡◌ {A = ℕ} 0 1 = cc in absurd (omega arith)
        by_read (sound x) e d =
            let body = text_body cnf e in
            let full = d.fills.0 in
            let v = d.fills.1 in
            let long = d.kept in
            let passed = opens x.vars n (length pool) t body.low body.high in
            rw full (rw (v, long) (ap (λ (k : Check). proof_left (answer code 0) (opened_with x.vars k).carried r) passed))

    -- the table holds them, and fits
    pub held_fits : (w : Table) → Fills n (read_text cnf) (Ok w) rows₁ pool pool₁ stack → working.Fit w rows₁ pool₁ stack
    held_fits w h = by_read (read_text cnf) h
      where
        by_read : (x : Read Cnf) → Fills n x (Ok w) rows₁ pool pool₁ stack → working.Fit w rows₁ pool₁ stack
        by_read (faulty g) d = let q = d.0 in let z : ◌≡◌ {A = ℕ} 0 1 = cc in absurd (omega arith)
        by_read (sound x) d = d.fills.0

    pub held : (w : Table) → Fills n (read_text cnf) (Ok w) rows₁ pool pool₁ stack → {u : Table} {rows₂ : List Row} → length rows₂ ≡ 1280 →
        Squeezed w rows₁ pool₁ stack u rows₂ → OpenRun n pool c r cnf (proof_stored (answer 0 0) u stack fresh_reading) rows₂ pool₁
    held w h {u} {rows₂} long q = let b = by_read (read_text cnf) h in record { bounded = b.0; opens = rw t b.1 }
      where
        by_read : (x : Read Cnf) → Fills n x (Ok w) rows₁ pool pool₁ stack → ((u.count ≤ n) × (u.count ≤ 1280)) ×
            OpensOn (by_text n (length pool) x) n pool c r (proof_stored (answer 0 0) u stack fresh_reading) rows₂ pool₁
        by_read (faulty g) d = let q = d.0 in let z : ◌≡◌ {A = ℕ} 0 1 = cc in absurd (omega arith)
        by_read (sound x) d =
            let full = d.fills.1 in
            let sized = ap (λ (s : State). s.entries) q.same
            ∙ ap (λ (s : State). s.entries) (filled_size x.clauses (opened_for n (length pool) x) 1 full) in
            let back = goes_back q.fit q.none_gone sized q.same in
            ((back.bounded.0, omega (arith, back.bounded.1, long)), rw full (refl, refl, back.stores refl))

-- ---- what is lent

-- nothing of a proof is read
fresh_is : is_reading fresh_reading ≡ true
fresh_is = let e = all_nil (in_range 2048) in rw e refl

fresh_starts : (s : State) → session fresh_reading s ≡ started s
fresh_starts s = rw zeros_empty refl

module _ (entries : List Entry) (pool : List ℤ) (c : Carried) (r : ProofReading) (cnf : List ℕ) (q : Ran LratGiven)
    (rows' : List Row) (entries' : List Entry) (pool' : List ℤ)
    (ran : OpenRun (length entries) pool c r cnf q rows' pool')
    (put : entries' ≡ over entries (map entry_of (take q.count rows'))) (put_rows : map row_of entries' ≡ over (map row_of entries) (take q.count rows'))
    (rows_long : length rows' ≡ 1280) (same_entries : length entries' ≡ length entries) (same_pool : length pool' ≡ length pool) where
  -- no row goes back
  stays : q.count ≡ 0 → entries' ≡ entries
  stays e = put ∙ ap (λ n. over entries (map entry_of (take n rows'))) e

  -- the rows that go back spell it
  spells : lent (length entries) (length pool) ≡ true → (s : State) → Stores (length entries) q.count q.given.carried rows' pool' s →
      q.given.reading ≡ fresh_reading → met entries' pool' q.given.carried q.given.reading ≡ some s
  spells t s stores e =
      let n : length (map row_of entries') ≡ length entries = length-map entries' row_of ∙ same_entries in
      let front : take q.count (map row_of entries') ≡ take q.count rows' = ap (take q.count) put_rows
      ∙ take_over (map row_of entries) rows' q.count (omega (arith, ran.bounded.1, rows_long)) in
      let is = fresh_is in
      rw e (rw (is, same_entries, same_pool, t) (stores (map row_of entries') n front))

  by_rules : (x : Rules) → lent (length entries) (length pool) ≡ true → OpensOn x (length entries) pool c r q rows' pool' →
      LratOpens x entries pool c r q.given entries' pool'
  by_rules (unopened a) t o =
      (ap (λ (x : Ran LratGiven). x.given) o.0, stays (ap (λ (x : Ran LratGiven). x.count) o.0), o.1)
  by_rules (no_room code vars) t o = (ap (λ (x : Ran LratGiven). x.given) o, stays (ap (λ (x : Ran LratGiven). x.count) o))
  by_rules (holding s) t o = (o.0, spells t s o.2 o.1, ap (λ (x : ProofReading). session x s) o.1 ∙ fresh_starts s)

  pub opens_lent : LratOpening entries pool c r cnf q.given entries' pool'
  opens_lent = record { opens = by_cases (lent (length entries) (length pool)) in_range_so out_of_range; sizes = (same_entries, same_pool) }
    where
      in_range_so : lent (length entries) (length pool) ≡ true →
          LratOpens (rules_of (length entries) (length pool) cnf) entries pool c r q.given entries' pool'
      in_range_so t = by_rules (rules_of (length entries) (length pool) cnf) t ran.opens

      out_of_range : lent (length entries) (length pool) ≡ false →
          LratOpens (rules_of (length entries) (length pool) cnf) entries pool c r q.given entries' pool'
      out_of_range f =
          let o = ran.opens in
          let d = rw f at o in
          rw f (ap (λ (x : Ran LratGiven). x.given) d.0, stays (ap (λ (x : Ran LratGiven). x.count) d.0), d.1)
