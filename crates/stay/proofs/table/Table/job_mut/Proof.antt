-- `job_mut` lends one element of the table's array, and the table follows it, for every T. Assumes `Logic`.
use Rattle.std.proofs.Common.{◌≡◌, ℕ, zero, suc, ◌+◌, ◌*◌, ◌^◌, ◌<◌, ◌≤◌, max, List, [], ◌∷◌, length, get_or, set, sym, refl, ◌∙◌, subst, le_of_suc-le-suc, not-suc-le-zero, mul-le-mul_right, one-mul, arith, length-set, w64, MutBor}
use seplogic.Ra.Ura.{Ura}
use base.Fraction.{full_share}
use mir.Syntax.{Args, Fn, named, a_type, ty_array, ty_int}
use mir.MapTy.{inst_fn}
use mir.Val.{Val, vint, vptr}
use base.Logic.{SProp, ent, sep, via, fst∗, snd∗}
use base.Fml.{Lft, GName, Share, ftrue, feq, fsep, flft}
use prog.Memory.{Memory, size, align, up}
use prog.Align.{up-ge}
use prog.Routine.{Routine}
use prog.Wp.{Calls, Loops, WpFn, Tables}
use types.Logic.{Logic, sem}
use contract.Lifetimes.{AllOutlive}
use contract.BorrowLft.{◌⊑◌}
use contract.Monad.{Fun, fact, fact_use}
use contract.Running.{tables, tables_of}
use sound.WpLaws.{WpFn-mono}
use types.Kit.{‵, raw, ◌⊛◌, some, later, await, group, ◌$◌, ◌∵◌, !, qed, by, move, keep, use1, use2, drop, split, split3, join, pick, rewrite, fsplit, fsplit3, fjoin, feq_l, feq_i, suffices, frame, done}
use types.Run.{size_lit, stop, fld, addr, bin, returns, enter}
use types.ByLocal.{alloc_all, pass_all, free_all, look_at, get, through, sets}
use types.Mut.{open_ref}
use denote.Array.{Array, Array-Lawful}
use denote.ArrayMemory.{Array-apart, Array-whole}
use denote.Builtin.{usize}
use denote.Exit.{yes, no}
use denote.Follow.{follows, lends_Part, Part}
use denote.Index.{place, place_is, others, takes, puts, row}
use denote.Laws.{Lawfuls}
use denote.Memory.{part_at, mem, shares}
use denote.Param.{param, layout, layouts}
use denote.Param.Laws.{Laws, param_laws}
use denote.Plain.{uint_vals, uint_Tells, uint_Lawful}
use denote.RattleType.{RattleType, owns}
use denote.Ref.{MutRef, mut_vals, mut_Tells}
use denote.Signature.{plain, mut_ref_to}
use denote.Steps.{nothing}
use denote.Struct.Members.{Member, rows_of}
use denote.Struct.Parts.{PartsBack}
use denote.Struct.Pick.{rest_at, record_field_out, record_field_back}
use denote.Triple.Clauses.{Clauses, Ended, closing}
use denote.Triple.Entry.{on_entry}
use denote.Triple.Spec.{Meets, triple_of}
use denote.Triple.Table.{entered}
use denote.Triple.Walked.{says, Stays, stay_dropped, walk_of, ends_at, walked, Goes-dropped, Goes-spent_ref, walk_Meets}
use Rattle.stay.specs.declared.table.Table.{Table}
use Rattle.stay.specs.contracts.table.Table as table
use Rattle.stay.specs.contracts.table.Table.job_mut as F
use Rattle.stay.specs.contracts.table.Table.job_mut.Key.{name as #self}
use Rattle.stay.proofs.table.Table.job_mut.Statement as stated
use Rattle.stay.proofs.table.Table.job_mut.Code as code

-- ---- lists and sizes
hd : {X : Type 0} (xs : List X) → 0 < length xs → X
hd [] h = absurd (not-suc-le-zero h)
hd (x ∷ xs) h = x

any_default : {X : Type 0} (xs : List X) (i : ℕ) (d e : X) → i < length xs → get_or xs i d ≡ get_or xs i e
any_default [] i d e h = absurd (not-suc-le-zero h)
any_default (x ∷ xs) zero d e h = refl
any_default (x ∷ xs) (suc i) d e h = any_default xs i d e (le_of_suc-le-suc h)

chain : (e p a c t : ℕ) → p + e ≤ a → a + 8 ≤ c → c < t → e < t
chain e p a c t h k l = omega arith

laid : (k₁ k₂ k₃ e : ℕ) → up k₁ (up k₂ (up k₃ 0 + e) + 8) < 2 ^ 63 → e < 2 ^ 63
laid k₁ k₂ k₃ e h = chain e (up k₃ 0) (up k₂ (up k₃ 0 + e)) (up k₁ (up k₂ (up k₃ 0 + e) + 8)) (2 ^ 63) (up-ge k₂ (up k₃ 0 + e)) (up-ge k₁ (up k₂ (up k₃ 0 + e) + 8)) h

wider : (a c : ℕ) → a ≤ c → c < 2 ^ 63 → a < 2 ^ 64
wider a c l h = omega arith

-- what is required: a fact that is not used, and two
needs_two : {M : Type 1} (𝓤 : Ura M) (P F : SProp 𝓤) (φ ψ : Type 0) {Q : SProp 𝓤} → (φ → ψ → ent 𝓤 P Q) → ent 𝓤 (sep 𝓤 P (sep 𝓤 F (sep 𝓤 (fact 𝓤 φ) (fact 𝓤 ψ)))) Q
needs_two 𝓤 P F φ ψ k =
    let two : SProp 𝓤 = sep 𝓤 (fact 𝓤 φ) (fact 𝓤 ψ) in
    let past = via 𝓤 (sep 𝓤 F two) (snd∗ 𝓤 P (sep 𝓤 F two)) (snd∗ 𝓤 F two) in
    fact_use 𝓤 φ (via 𝓤 two past (fst∗ 𝓤 (fact 𝓤 φ) (fact 𝓤 ψ))) (λ x. fact_use 𝓤 ψ (via 𝓤 two past (snd∗ 𝓤 (fact 𝓤 φ) (fact 𝓤 ψ))) (λ y. via 𝓤 P (fst∗ 𝓤 P (sep 𝓤 F two)) (k x y)))

-- ---- the types
module _ (X : RattleType) where
  abbrev args : Args
  args = layouts (a_type ∷ []) (X, tt)

  abbrev fn' : Fn
  fn' = inst_fn args code.function

  abbrev R : RattleType
  R = param 0 X

  abbrev B : RattleType
  B = table.the_row R

  abbrev D : Type 0
  D = Table X.Denot

  abbrev s : ℕ
  s = size (layout X)

  -- where the array lies in the table
  abbrev off : ℕ
  off = up (align (ty_array (layout X) 64)) 0

  abbrev ms : List Member
  ms = record { row = Array R 64; ty = ty_array (layout X) 64 } ∷ record { row = usize; ty = ty_int w64 } ∷ []

  abbrev with_job : D → ℕ → X.Denot → D
  with_job d i w = record { jobs = set d.jobs i w; count = d.count; few = d.few }

  abbrev ended : Ended
  ended = F.ended X

  abbrev stayed : Stays ended.signature.params ended.kept
  stayed = (stay_dropped (mut_ref_to (0 ∷ []) tt (plain (λ _. B))) no, (stay_dropped (plain (λ _. usize)) yes, tt))

module _ (X : RattleType) (L : Laws X) {M : Type 1} {𝓤 : Ura M} (𝓛 : Logic 𝓤) where
  lawfuls : Lawfuls 𝓛 (rows_of (ms X))
  lawfuls = (Array-Lawful 𝓛 (R X) ((param_laws 0 X L).lawful 𝓛) 64, (uint_Lawful 𝓛 w64, tt))

  module _ (d : D X) (i : ℕ) (b o : ℕ) where
    -- all of the table but its i-th element
    abbrev Rest : SProp 𝓤
    Rest = sep 𝓤 (sem 𝓛 (others (shares (R X)) full_share d.jobs i b (o + off X)))
        (sep 𝓤 (sem 𝓛 (rest_at full_share (ms X) zero (d.jobs, (d.count, tt)) b o 0)) (PartsBack 𝓛 full_share (table.struct (R X)).name (ms X) b o))

    back : i < 64 → length d.jobs ≡ 64 → (w : X.Denot)
        → ent 𝓤 (sep 𝓤 (sem 𝓛 ((mem (R X)).own_at w b (i * s X + (o + off X)))) Rest) (sem 𝓛 ((mem (B X)).own_at (with_job X d i w) b o))
    back li l w =
        let xs : List X.Denot = d.jobs in
        let a : ℕ = o + off X in
        qed 𝓛 (‵ (part_at (R X) full_share w b (i * s X + a)) ∷ ‵ (others (shares (R X)) full_share xs i b a) ∷ ‵ (rest_at full_share (ms X) zero (xs, (d.count, tt)) b o 0) ∷ raw (PartsBack 𝓛 full_share (table.struct (R X)).name (ms X) b o) ∷ []) ∵
        rewrite ! 0 (λ (k : ℕ). ‵ (part_at (R X) full_share w b k)) (sym (place_is (s X) a i)) refl $
        use2 𝓛 (‵ (row (R X) full_share (set xs i w) b a)) (puts (shares (R X)) full_share 𝓛 xs i w b a (subst (λ (n : ℕ). i < n) (sym l) li)) $
        feq_i ! ℕ (length (set xs i w)) 64 (length-set xs i w ∙ l) $ fjoin ! $
        use1 𝓛 (‵ (part_at (Array (R X) 64) full_share (set xs i w) b a)) (Array-whole 𝓛 (R X) full_share 64 (set xs i w) b a) $
        by ! (record_field_back 𝓛 full_share (table.struct (R X)).name (ms X) (D X) (table.the_type (R X)).to (table.the_type (R X)).to_one (with_job X d i w) b o 0)

module _ (X : RattleType) (L : Laws X) {M : Type 1} {𝓤 : Ura M} (𝓛 : Logic 𝓤) (at_mem : Memory → SProp 𝓤) (run : Routine → Fun 𝓤) where
  open 𝓛 use {H, A}

  abbrev clauses : Clauses 𝓤 (ended X)
  clauses = F.clauses X 𝓛 at_mem run

  module _ (κ κT : Lft) (q q_t : Share) (bd : AllOutlive 2 (ended X).signature.outlives (κ, (κT, tt))) (rb ro : ℕ) (γ : GName) (d : D X) (i : ℕ) (fi : i < 2 ^ 64) where
    abbrev self : MutBor (D X)
    self = record { ref_ptr = (rb, ro); ghost_name = γ; now = d }

    abbrev bound : (walk_of 𝓛 (ended X) (stayed X) clauses).Ghost
    bound = (((κ, (κT, tt)), (q, (q_t, tt)), bd, (self, (i, tt)), (vptr rb ro ∷ [], (vint w64 i ∷ [], tt))), tt)

    abbrev Post : Val → SProp 𝓤
    Post = (walk_of 𝓛 (ended X) (stayed X) clauses).post bound

    exits : (p : ℕ) (x : X.Denot) → ((e : X.Denot) → x ≡ get_or d.jobs i e) → (γ' : GName)
        → ent 𝓤 (sep 𝓤 (sep 𝓤 (sem 𝓛 ((MutRef (named 0) κ (R X)).own_val (record { ref_ptr = (rb, p); ghost_name = γ'; now = x }) (vptr rb p ∷ []))) (sep 𝓤 (A.lft κ q) (sem 𝓛 (follows (B X) (R X) γ γ' (with_job X d i))))) (A.lft κT q_t)) (Post (vptr rb p))
    exits p x e γ' =
        qed 𝓛 ((‵ ((MutRef (named 0) κ (R X)).own_val (record { ref_ptr = (rb, p); ghost_name = γ'; now = x }) (vptr rb p ∷ [])) ⊛ ‵ (flft κ q) ⊛ ‵ (follows (B X) (R X) γ γ' (with_job X d i))) ∷ ‵ (flft κT q_t) ∷ []) ∵
        suffices ! _ (ends_at 𝓛 (ended X) (stayed X) clauses bound (vptr rb p) (record { ref_ptr = (rb, p); ghost_name = γ'; now = x }) (tt, (tt, tt)) (tt, (tt, tt))) $
        split3 ! $
        nothing ! $ nothing ! $ fjoin ! $ nothing ! $ fjoin ! $ join ! $ nothing ! $ move ! (4 ∷ 0 ∷ []) $ join ! $ move ! (2 ∷ 0 ∷ []) $ join ! $ join ! $ frame ! $ says ! e $ done !

    walk : (C : Calls 𝓤 H) (Λ : Loops 𝓤 H) → i < 64 → 64 * s X < 2 ^ 63
        → ent 𝓤 (on_entry 𝓛 (ended X).signature (κ, (κT, tt)) (q, (q_t, tt)) (self, (i, tt)) (vptr rb ro ∷ [], (vint w64 i ∷ [], tt))) (WpFn 𝓤 H C Λ (fn' X) (vptr rb ro ∷ vint w64 i ∷ []) Post)
    walk C Λ li fit =
        let xs : List X.Denot = d.jobs in
        let a : ℕ = ro + off X in
        let p : ℕ = i * s X + a in
        let one : 1 * s X ≤ 64 * s X = mul-le-mul_right (s X) (omega arith) in
        let tiny : s X < 2 ^ 64 = wider (s X) (64 * s X) (subst (λ (n : ℕ). n ≤ 64 * s X) (one-mul (s X)) one) fit in
        let many : i * s X ≤ 64 * s X = mul-le-mul_right (s X) (omega arith) in
        let fmi : i * s X < 2 ^ 64 = wider (i * s X) (64 * s X) many fit in
        qed 𝓛 ((‵ (flft κ q) ⊛ ‵ (flft κT q_t) ⊛ ‵ ftrue) ∷ ‵ (owns (MutRef (named 0) κ (B X) ∷ usize ∷ []) (self, (i, tt)) (vptr rb ro ∷ [], (vint w64 i ∷ [], tt))) ∷ []) ∵
        enter ! C Λ (fn' X) (vptr rb ro ∷ vint w64 i ∷ []) _ $
        alloc_all ! (λ l. pass_all ! refl ((tt, tt), ((tt, record { fits = fi }), tt)) $
        move ! (1 ∷ []) $ fsplit ! $ fsplit3 ! $ drop ! $ move ! (3 ∷ []) $ split3 ! $ move ! (3 ∷ 4 ∷ 0 ∷ []) $
        open_ref ! tt (mem (B X)) {x = d} {b = rb} {o = ro} $
        use1 𝓛 (‵ (part_at (Array (R X) 64) full_share xs rb a) ⊛ ‵ (rest_at full_share (ms X) zero (xs, (d.count, tt)) rb ro 0) ⊛ raw (PartsBack 𝓛 full_share (table.struct (R X)).name (ms X) rb ro))
        (record_field_out 𝓛 full_share (table.struct (R X)).name (ms X) (D X) (table.the_type (R X)).to (table.the_type (R X)).to_one (lawfuls X L 𝓛) d rb ro 0) $ split3 ! $
        use1 𝓛 (‵ (fsep (feq ℕ (length xs) 64) (row (R X) full_share xs rb a))) (Array-apart 𝓛 (R X) full_share tt 64 xs rb a) $ fsplit ! $ feq_l ! (λ len.
        let lx : i < length xs = subst (λ (n : ℕ). i < n) (sym len) li in
        let e : X.Denot = hd xs (subst (λ (n : ℕ). 0 < n) (sym len) (omega arith)) in
        let x : X.Denot = get_or xs i e in
        use1 𝓛 (‵ (part_at (R X) full_share x rb (place (s X) a i)) ⊛ ‵ (others (shares (R X)) full_share xs i rb a)) (takes (shares (R X)) full_share 𝓛 xs i e rb a lx) $ split ! $
        rewrite ! 0 (λ (k : ℕ). ‵ (part_at (R X) full_share x rb k)) (place_is (s X) a i) refl $
        -- [the element; the others; the count; the way back; the open borrow; obs; auth; 'T's token; ..]
        sets ! (bin ! (get ! refl) (size_lit ! (record { fits = tiny })) (record { fits = fmi })) refl (tt, record { fits = fmi }) $
        sets ! (addr ! (through ! refl (fld ! refl (stop !)))) refl (tt, tt) $
        sets ! (bin ! (get ! refl) (get ! refl) tt) refl (tt, tt) $
        sets ! (addr ! (through ! refl (stop !))) refl (tt, tt) $
        move ! (1 ∷ 2 ∷ 3 ∷ []) $ group ! 3 $ move ! (2 ∷ 3 ∷ 4 ∷ 1 ∷ 0 ∷ []) $ group ! 5 $
        use1 𝓛 (later (some (λ (γ' : GName). raw (Part 𝓛 (B X) (R X) (with_job X d i) (named 0) κ q rb ro rb p γ (Rest X L 𝓛 d i rb ro) (back X L 𝓛 d i rb ro li len) x γ'))))
        (lends_Part 𝓛 (B X) (R X) (with_job X d i) (named 0) κ q rb ro rb p γ (Rest X L 𝓛 d i rb ro) (back X L 𝓛 d i rb ro li len) ((B X).coded.code d) ((B X).coded.code d) x) $ await ! tt $ pick ! (λ γ'.
        returns ! (look_at ! 0 refl) $ free_all ! refl $
        keep ! (0 ∷ 1 ∷ []) $ by ! (exits p x (λ e'. any_default xs i e e' lx) γ'))))

  meets : (𝓣 : Tables 𝓤 H) → Meets 𝓛 (ended X).signature (WpFn 𝓤 H 𝓣.C 𝓣.Λ (fn' X)) (closing 𝓛 (ended X) clauses)
  meets 𝓣 =
      walk_Meets 𝓛 (ended X) (stayed X) (Goes-spent_ref 𝓛 2 (0 ∷ []) tt (plain (λ _. B X)), (Goes-dropped 𝓛 2 (plain (λ _. usize)) yes (λ κs x f. refl), tt)) clauses (WpFn 𝓤 H 𝓣.C 𝓣.Λ (fn' X)) (WpFn-mono 𝓤 H 𝓛.laws 𝓣 (fn' X))
      (walked 𝓛 (ended X) (stayed X) clauses (WpFn 𝓤 H 𝓣.C 𝓣.Λ (fn' X)) (λ κs. (mut_vals, (uint_vals w64, tt))) (λ κs. (mut_Tells (named 0) κs.0 (B X), (uint_Tells w64, tt)))
      (λ κs qs bounds a g are.
      needs_two 𝓤 (on_entry 𝓛 (ended X).signature κs qs a (mut_vals a.0, (uint_vals w64 a.1.0, tt))) (fact 𝓤 (κs.1.0 ⊑ X.lives)) (size (layout (B X)) < 2 ^ 63) (a.1.0 < 64) (λ fit li.
      walk κs.0 κs.1.0 qs.0 qs.1.0 bounds a.0.ref_ptr.0 a.0.ref_ptr.1 a.0.ghost_name a.0.now a.1.0 are.1.0.1 𝓣.C 𝓣.Λ li
      (laid (max (align (layout X)) 8) 8 (align (layout X)) (64 * s X) fit))))

pub job_mut_spec : {M : Type 1} → stated.statement M
unfolding tables_of
job_mut_spec 𝓤 𝓛 𝓜 𝓡 wired X L =
    let A = 𝓛.A in
    let 𝓣 : Tables 𝓤 𝓛.H = tables_of 𝓤 𝓛.H 𝓜 (tables 𝓤 𝓛.H 𝓜 𝓡 𝓡.env) in
    entered 𝓤 𝓛.H (triple_of 𝓛 (ended X).signature (F.spec X 𝓛 𝓜.mem 𝓡.returns)) 𝓣.C 𝓣.Λ (#self (args X)) (fn' X) (code.unfolded 𝓤 𝓛.H 𝓜 𝓡 wired (X, tt))
    (meets X L 𝓛 𝓜.mem 𝓡.returns 𝓣)
