-- One group: what is left of the paper's check at each word of it.
use mathlib.Core.Path.{◌≡◌, refl, sym, ◌∙◌, ap, ap₂}
use mathlib.Core.Bool.{Bool, true, false, true≢false, false≢true}
use mathlib.Core.List.{List, [], ◌∷◌}
use Prim.Native.Nat.{ℕ, ◌+◌, ◌-◌, ◌≤◌, ◌<◌}
use native.Mathlib.Omega.{arith}
use lib.Dec.{leb}
use mir.Syntax.{w32}
use mir.Val.{SFits}
use lib.IntN.{ℤ, pos, negsuc}
use lib.ListN.{length, get_or, drop, drop_of_length-le, length-take, length-drop}
use lib.Seq.{drop-drop}
use borrow.Author.Tests.{lt-leb, le-leb}
use Rattle.rules.proofs.Lists.{from_index}
use Rattle.rules.specs.Terms.{Literals, same, Held}
use Rattle.rules.specs.Propagation.{Allowed, proves}
use Rattle.rules.specs.Frames.{number, target}
use Rattle.rules.specs.Answers.{◌then◌, need, decided, fits, groups}
use Rattle.rules.specs.declared.Verdict.{Verdict}
use Rattle.rules.specs.declared.Fault.{Fault}
use Rattle.rules.specs.declared.Fault.TheVariants.{Group}
use Rattle.std.specs.Prelude.{Ok, Err}
use Rattle.lit.specs.Signs.{is_natural}
use Rattle.lit.proofs.Signed.{back, said}
use Rattle.rules.specs.Propagation.{among}
use Rattle.rules.specs.Results.{Check}
use Rattle.rules.proofs.Propagation.{Stopped}
use Rattle.table.specs.Spelled.{Row, Readable, row_at, clause_part, held}
use Rattle.judge_propagate.specs.Scope.{allowed_of, irredundant_but}
use Rattle.judge_propagate.specs.declared.Scope.{Scope}
use Rattle.judge_propagate.proofs.Scopes.{allows_others}
use Rattle.judge_checks.proofs.Verdicts.{stopped_within}
use Rattle.weaken_groups.specs.Groups.{others, groups_at, hints_of, hints_at, Headed, Grouped}

-- ---- a header, by the tests in their order

module _ (from : ℕ) (ws : List ℤ) (at due : ℕ) where
  refused : (n : ℕ) → ((A : Allowed) (c : List ℤ) (W : Literals) (D : Held) (ds : List Held) → D.id ≡ due →
      groups_at A c W from ws (D ∷ ds) at ≡ Err (Group n))
      → Headed from ws at due (Err (Group n))
  refused n e = record { says = e; ahead = tt }

  pub group_missing : length ws ≤ at → Headed from ws at due (Err (Group (from + at)))
  unfolding groups
  group_missing h = refused (from + at) (λ A c W D ds q. let e = drop_of_length-le ws h in rw e)

  module _ (h : at < length ws) where
    abbrev x : ℤ
    x = get_or ws at (pos 0)

    wrong : (A : Allowed) (c : List ℤ) (W : Literals) (D : Held) (ds : List Held) (more : List ℤ) → same x (pos D.id) ≡ false
        → groups A c W (D ∷ ds) (from + at) (x ∷ more) ≡ Err (Group (from + at))
    unfolding groups ◌then◌ need
    wrong A c W D ds [] f = rw f
    wrong A c W D ds (k ∷ more) f = rw f

    -- by the test of the id
    module _ (fits_x : SFits w32 x) {named : Bool} (names : named ≡ same (back x) (pos due)) where
      id_is : same x (pos due) ≡ named
      id_is = sym (said (λ z. same z (pos due)) {l = x} fits_x names)

      pub wrong_id : named ≡ false → Headed from ws at due (Err (Group (from + at)))
      wrong_id f = refused (from + at) (λ A c W D ds q. let e = from_index ws at (pos 0) h in rw e (wrong A c W D ds (drop (at + 1) ws) (rw q (id_is ∙ f))))

      module _ (is_named : named ≡ true) where
        t : same x (pos due) ≡ true
        t = id_is ∙ is_named

        pub count_missing : length ws ≤ at + 1 → Headed from ws at due (Err (Group (from + (at + 1))))
        unfolding groups ◌then◌ need
        count_missing l = refused (from + (at + 1)) (λ A c W D ds q.
            let e = from_index ws at (pos 0) h in
            let m = drop_of_length-le ws l in
            let z : from + (at + 1) ≡ from + at + 1 = omega arith in
            rw (e, m, q, t, z))

        module _ (l : at + 1 < length ws) where
          abbrev k : ℤ
          k = get_or ws (at + 1) (pos 0)

          abbrev end : ℕ
          end = at + 2 + number k

          two : drop at ws ≡ x ∷ k ∷ drop (at + 2) ws
          two = let z : at + 2 ≡ at + 1 + 1 = omega arith in from_index ws at (pos 0) h ∙ rw z (ap (λ more. x ∷ more) (from_index ws (at + 1) (pos 0) l))

          counted : (A : Allowed) (c : List ℤ) (W : Literals) (D : Held) (ds : List Held) → D.id ≡ due
              → groups_at A c W from ws (D ∷ ds) at ≡ (need (fits k (length ws - (at + 2))) (Group (from + (at + 1))) then hints_at A c W from ws D ds at end)
          unfolding groups ◌then◌ need
          counted A c W D ds q =
              let e = two in
              let n = length-drop (at + 2) ws in
              let z : from + at + 1 ≡ from + (at + 1) = omega arith in
              let y : from + at + 2 ≡ from + (at + 2) = omega arith in
              let w : from + (at + 2) + number k ≡ from + end = omega arith in
              let v : end - (at + 2) ≡ number k = omega arith in
              let d = drop-drop (number k) (at + 2) ws in
              rw (e, q, t, n, z, y, w, v, d)

          misfit : fits k (length ws - (at + 2)) ≡ false → Headed from ws at due (Err (Group (from + (at + 1))))
          unfolding ◌then◌ need
          misfit f = refused (from + (at + 1)) (λ A c W D ds q. let e = counted A c W D ds q in rw (e, f))

          -- by the test of the count's sign
          module _ (fits_k : SFits w32 k) {is_count : Bool} (natural : is_count ≡ is_natural (back k)) where
            sign_is : is_natural k ≡ is_count
            sign_is = sym (said is_natural {l = k} fits_k natural)

            pub negative_count : is_count ≡ false → Headed from ws at due (Err (Group (from + (at + 1))))
            negative_count f = misfit (by_sign k (sign_is ∙ f))
              where
                by_sign : (y : ℤ) → is_natural y ≡ false → fits y (length ws - (at + 2)) ≡ false
                by_sign (pos n) f = absurd (true≢false f)
                by_sign (negsuc n) f = refl

            -- by the count itself
            module _ (is_one : is_count ≡ true) {n : ℕ} (counts : n ≡ number (back k)) where
              count_is : n ≡ number k
              count_is = said number {l = k} fits_k counts

              fits_is : (y : ℤ) → is_natural y ≡ true → fits y (length ws - (at + 2)) ≡ leb (number y) (length ws - (at + 2))
              fits_is (pos n) p = refl
              fits_is (negsuc n) p = absurd (false≢true p)

              pub past_the_end : length ws - (at + 2) < n → Headed from ws at due (Err (Group (from + (at + 1))))
              past_the_end p = misfit (fits_is k (sign_is ∙ is_one) ∙ lt-leb (number k) (length ws - (at + 2)) (rw count_is at p))

              pub header_read : n ≤ length ws - (at + 2) → Headed from ws at due (Ok (at + 2 + n))
              unfolding ◌then◌ need
              header_read p =
                  let few : number k ≤ length ws - (at + 2) = rw count_is at p in
                  rw count_is record {
                    says = λ A c W D ds q.
                        let e = counted A c W D ds q in
                        let f = fits_is k (sign_is ∙ is_one) ∙ le-leb (number k) (length ws - (at + 2)) few in
                        rw (e, f);
                    ahead = (omega arith, omega arith);
                  }

-- ---- the group of row d, behind its header

few_hints : (ws : List ℤ) (at end : ℕ) → length (hints_of ws at end) ≤ length ws
few_hints ws at end = omega (arith, length-take (end - (at + 2)) (drop (at + 2) ws), length-drop (at + 2) ws)

-- by what the code has read: the row's id, its header and its literals; and by what its hints prove
module _ (c : List ℤ) (W : Literals) (d : ℕ) {i : ℕ} {pool : List ℤ} {rows : List Row} {from : ℕ} {ws : List ℤ} {at due end : ℕ} {scope : Scope}
    {lits : List ℤ} {v : Verdict} (fine : Readable rows pool) (named : due ≡ (held pool (row_at rows d)).id) (headed : Headed from ws at due (Ok end))
    (others_only : scope ≡ irredundant_but i) (reads : lits ≡ clause_part pool (row_at rows d))
    (judged : v ≡ proves (allowed_of scope pool rows) (target c W lits) (hints_of ws at end)) where
  abbrev A : Allowed
  A = among (others i pool rows)

  abbrev D : Held
  D = held pool (row_at rows d)

  verdict_is : v ≡ proves A (target c W D.lits) (hints_of ws at end)
  verdict_is = judged ∙ ap₂ (λ B l. proves B (target c W l) (hints_of ws at end)) (allows_others i others_only fine) reads

  pub stops : length ws ≤ 4096 → Stopped 4096 v
  stops h = stopped_within _ _ _ 4096 (omega (arith, few_hints ws at end)) verdict_is

  -- the paper's groups, up to what they come to by the verdict
  ruled : (ds : List Held) → groups_at A c W from ws (D ∷ ds) at ≡ (decided (from + (at + 2)) due v then groups_at A c W from ws ds end)
  ruled ds =
      headed.says A c W D ds (sym named)
      ∙ ap₂ (λ j u. decided (from + (at + 2)) j u then groups_at A c W from ws ds end) (sym named) (sym verdict_is)

  module _ {check : Check} (e : check ≡ decided (from + (at + 2)) due v) where
    pub unproved : (f : Fault) → check ≡ Err f → Grouped A c W from ws D at (Err f)
    unfolding ◌then◌
    unproved f q = record { says = λ ds. let p = ruled ds in let u = rw e at q in rw u at p; ahead = tt }

    pub proved : check ≡ Ok tt → Grouped A c W from ws D at (Ok end)
    unfolding ◌then◌
    proved q = record { says = λ ds. let p = ruled ds in let u = rw e at q in rw u at p; ahead = headed.ahead }
