-- Rules that the walks by hand share, beside the toolchain's. They know nothing of the functions that are walked.
-- A local is named by its number in the code: behind s entries of the context and with n locals, the cell of local i stands at s + 2 (n - 1 - i), and what lets it be freed behind it.
--     Held E x τ v                the operand x is v, a value of the type τ
--     local, field, behind        it is a local, a field of one, or what a local points to
--     arg                         a local is passed as it stands
--     takes, takes_as, stores     an operand is stored, in a local and behind a reference
--     packs                       a struct of two fields is made in a local
--     gone                        a local is given back, whatever it holds
--     hole, fills                 an entry is taken out of its place, and put back
--     Law R                       how a value of the type R is spelled, that its relation tells it, and that it is typed
--     struct_law, enum_law, mut_law  that of a struct, an enum, a mutable reference
--     met                         a run meets its contract, from a walk at the machine values written out, with their typing in hand
--     After T X E v               what there is after a call: the tokens T, some x of the type X with the machine value v, and E x
--     left                        it is made of an x
--     answered                    it gives v's typing, and what each x gives
--     answers                     a call's answer lands in its local, written out, with what the callee says of it in hand
--     hands                       the callee's number is the caller's, where what the one says of it the other says
--     beside, told                a fact is said beside last values of which nothing is said;  and it goes from one function's `ensures` to another's
--     opens_at                    a `&mut` is opened, with what lies behind it written out
--     lends, comes_back           a local is lent for a call, and comes back at its last value
-- What every walk names of the logic is passed on by the `pub use` lines. Assumes `Logic`.
pub use mathlib.Core.Path.{◌≡◌, refl}
pub use Prim.Native.Nat.{ℕ}
pub use mathlib.Core.List.{List, [], ◌∷◌}
pub use seplogic.Ra.Ura.{Ura}
pub use base.Fraction.{full_share}
pub use mir.Syntax.{erased, ty_int, w64, named}
pub use mir.Val.{Val, vptr}
pub use base.Logic.{SProp, ent, sep, emp, guard, snd∗, ex_e, id⊢}
pub use base.Fml.{Lft, Share, GName, Fml, ftrue, flft, fobs, fbor, fres}
pub use prog.Memory.{Memory}
pub use prog.Routine.{Routine}
pub use prog.Wp.{Heap, Calls, Loops, WpFn, Tables}
pub use ghost.Atoms.{Atoms, meaning}
pub use types.Logic.{Logic, sem}
pub use contract.Monad.{Fun, fact, fact_i}
pub use contract.Running.{tables}
unfoldable pub use contract.Running.{tables_of}
pub use types.Kit.{‵, raw, ◌⊛◌, given, later, ◌$◌, ◌∵◌, !, qed, by, move, keep, drop, use1, use2, use3, group, split, join, fsplit, fsplit3, fjoin, fjoin3, show, rewrite, suffices, frame, learn, await, done}
pub use types.Run.{look, init, stop, from, addr, and_then, no_more, assigns, land, returns, enter, alloc1, alloc0, params1, pass1, pass0, free0}
pub use types.SemTy.{Body}
pub use sound.WpLaws.{FmC, fm_of}
pub use denote.RattleType.{owns, mirs}
pub use denote.Laws.{Typed, Is, shows}
pub use denote.Memory.{mem}
pub use denote.Ref.{Bor, MutBor, MutRef, NamedLft}
pub use denote.Signature.{types_at}
pub use denote.Steps.{closes, peeks, heard, nothing, owned}
pub use denote.Triple.Statement.{Contract, Triple}
pub use denote.Triple.Call.{calls_at}
pub use denote.Triple.Clauses.{ensured, lasts}
pub use denote.Triple.Spec.{Meets, triple_of}
pub use denote.Triple.Table.{entered, cited}
use mathlib.Core.Path.{sym, ap, subst, subst₂}
use mathlib.Core.Option.{some as some_o}
use Prim.Native.Nat.{zero, suc, ◌+◌, ◌-◌, ◌*◌}
use mathlib.Core.Bool.{Bool, true, false, ◌&&◌}
use lib.Dec.{T}
use lib.ListN.{length}
use mir.Syntax.{Ty, Tys, tnil, tcons, Sym, ty_struct, copy, aggregate, place, deref, field as field_step, assign, seq, rv_opd, Opd as Operand, Body as Code}
use mir.Raw.{raw as raw_ty}
use mir.Val.{Vals as Values, vnil, vcons, vstruct, WT, has_ty}
use mir.Fields.{get_v}
use base.Logic.{ex, wand, via, comm∗, mono_l, mono_r, emp∗, ex_i, wand_i, apply∗, guard_i, guard_e}
use base.Fml.{fsep, fat, froom, fdies, fobor, fauth, flent}
use prog.Memory.{field_of, field_at}
use prog.Wp.{Env, spot_of, read}
use contract.Lifetimes.{Lfts, Shares, AllOutlive}
use types.Kit.{Item, some, pick, Goal, Post, Soaks, Seq, Step, step, runs, lands, frees, nth, del, put, pull, pop, fill, sel⊢, ⋆, mean, push, check, fpick, fpack, updating, now as at_once}
use types.Run.{Opd, Reads, fld, load, of_opd, forget, free1, hop, look_raw, store_raw, well_typed}
use types.Part.{Part, agg, whole, sub, look_in}
use types.Tokens.{lft_new, lft_end}
use denote.RattleType.{RattleType, flat}
use denote.Laws.{Ises, Spells, Tells, Tellss, Lawful, Lawfuls, valss, all_Typed}
use denote.Lend.{lends_ref, ref_back}
use denote.Memory.{part_of, part_at, cell_at}
use denote.Plain.{uint_Lawful}
use denote.Builtin.{u64}
use denote.Ref.{mut_Tells, mut_Lawful}
use denote.Shadow.{Pure, shadow, makes_shadow}
use denote.Signature.{Signature}
use denote.Steps.{only, said, opens}
use denote.Struct.Declared.{Declared, row}
use denote.Struct.Laws as LL
use denote.Struct.Steps.{spelt}
use denote.Enum.Declared as ED
use denote.Enum.Laws as EL
use denote.Enum.Enum.{Few}
use denote.Triple.Entry.{Args, Vals}
use denote.Triple.Spec.{Spec}

-- v is a value of the type
abbrev pub Fits : Ty → Val → Type 0
Fits τ v = T (has_ty τ v) × WT v

T-both : (a b : Bool) → T a → T b → T (a && b)
T-both true b h k = k
T-both false b h k = h

-- where the cell of local i stands, behind s entries
abbrev pub stands : ℕ → List (Ty × ℕ) → ℕ → ℕ
stands s E i = s + 2 * (length E - suc i)

-- ---- operands
module _ {M : Type 1} {𝓤 : Ura M} (K : Type 0) (𝓛 : Logic 𝓤) (Γ : List (Item 𝓤)) where
  open 𝓛 use {H}

  pub record Held (E : Env 𝓤 H) (x : Operand) (τ : Ty) (v : Val) : Type 2 where
    pub opd : Opd K 𝓛 Γ E x v
    pub fits : ent 𝓤 (⋆ 𝓛 Γ) (guard 𝓤 (Fits τ v) (⋆ 𝓛 Γ))

module _ {M : Type 1} {𝓤 : Ura M} {𝓛 : Logic 𝓤} {K : Type 0} {Γ : List (Item 𝓤)} where
  open 𝓛 use {H}

  -- what is read at a place is a value of the place's type
  is_typed : (τ : Ty) (b o : ℕ) (v : Val) → Reads K 𝓛 Γ τ b o v → ent 𝓤 (⋆ 𝓛 Γ) (guard 𝓤 (Fits τ v) (⋆ 𝓛 Γ))
  is_typed τ b o v r =
      let P : Val → SProp 𝓤 = λ u. sep 𝓤 (fact 𝓤 (u ≡ v)) (⋆ 𝓛 Γ) in
      via 𝓤 (read 𝓤 H τ b o P) (r.go P (via 𝓤 (sep 𝓤 (emp 𝓤) (⋆ 𝓛 Γ)) (emp∗ 𝓤 (⋆ 𝓛 Γ)) (mono_l 𝓤 (⋆ 𝓛 Γ) (fact_i 𝓤 (v ≡ v) (emp 𝓤) refl))))
      (qed 𝓛 (some (λ (q : Share). some (λ (u : Val). ‵ (fat q τ b o u) ⊛ raw (wand 𝓤 (H.at q τ b o u) (P u)))) ∷ []) ∵ pick ! (λ q. pick ! (λ u. split ! $ well_typed ! (λ wt.
      use2 𝓛 (raw (fact 𝓤 (u ≡ v)) ⊛ raw (⋆ 𝓛 Γ)) (apply∗ 𝓤 (H.at q τ b o u) (P u)) $ split ! $ heard ! (u ≡ v) (λ e. by ! (guard_i 𝓤 (Fits τ v) (⋆ 𝓛 Γ) (subst (Fits τ) e wt)))))))

  module _ {E : Env 𝓤 H} where
    pub local : K → (s : ℕ) {i : ℕ} {q : Share} {v : Val} → nth 𝓛 (stands s E i) Γ ≡ ‵ (fat q (spot_of 𝓤 H E i).0 (spot_of 𝓤 H E i).1 zero v) → Held K 𝓛 Γ E (copy (place i [])) (spot_of 𝓤 H E i).0 v
    local t s {i} {q} {v} e = record { opd = load t (from t (stop t)) (look t (stands s E i) e); fits = is_typed (spot_of 𝓤 H E i).0 (spot_of 𝓤 H E i).1 zero v (look t (stands s E i) e) }

    pub field : K → (s : ℕ) {i k : ℕ} {q : Share} {ν : Sym} {τs : Tys} {vs : Values} {τ : Ty} {d : ℕ}
        → nth 𝓛 (stands s E i) Γ ≡ ‵ (fat q (ty_struct ν τs) (spot_of 𝓤 H E i).1 zero (vstruct vs)) → field_at zero τs k ≡ some_o (τ, d) → field_of (spot_of 𝓤 H E i).0 k ≡ some_o (τ, d)
        → Held K 𝓛 Γ E (copy (place i (field_step k ∷ []))) τ (get_v vs k)
    field t s {i} {k} {q} {ν} {τs} {vs} {τ} {d} e e₁ e₂ =
        let there : Reads K 𝓛 Γ τ (spot_of 𝓤 H E i).1 (zero + d) (get_v vs k) =
        look_in t (stands s E i) (sub t k e₁ (subst (λ (j : Item 𝓤). Part K 𝓛 j q (ty_struct ν τs) (spot_of 𝓤 H E i).1 zero (vstruct vs) (λ u. ‵ (fat q (ty_struct ν τs) (spot_of 𝓤 H E i).1 zero u))) (sym e) (whole t))) in
        record { opd = load t (from t (fld t e₂ (stop t))) there; fits = is_typed τ (spot_of 𝓤 H E i).1 (zero + d) (get_v vs k) there }

    -- local i points to the cell at entry n
    pub behind : K → (s n : ℕ) {i : ℕ} {q r : Share} {τ : Ty} {b o : ℕ} {v : Val} → nth 𝓛 (stands s E i) Γ ≡ ‵ (fat r (spot_of 𝓤 H E i).0 (spot_of 𝓤 H E i).1 zero (vptr b o)) → nth 𝓛 n Γ ≡ ‵ (fat q (raw_ty τ) b o v)
        → Held K 𝓛 Γ E (copy (place i (deref τ ∷ []))) τ v
    behind t s n {i} {q} {r} {τ} {b} {o} {v} e d = record { opd = load t (from t (hop t (look t (stands s E i) e) (stop t))) (look_raw t n d); fits = is_typed τ b o v (look_raw t n d) }

    pub arg : K → (s : ℕ) {i : ℕ} {q : Share} {v : Val} → nth 𝓛 (stands s E i) Γ ≡ ‵ (fat q (spot_of 𝓤 H E i).0 (spot_of 𝓤 H E i).1 zero v) → Opd K 𝓛 Γ E (copy (place i [])) v
    arg t s e = (local t s e).opd

    -- ---- statements
    module _ {C : Calls 𝓤 H} {Λ : Loops 𝓤 H} {Q : Post 𝓤 H} {rest : Code} {x : Operand} {v : Val} where
      -- the operand's type may differ from the local's in a lifetime
      pub takes_as : K → (s : ℕ) {i : ℕ} {σ : Ty} → Held K 𝓛 Γ E x σ v → (Fits σ v → Fits (spot_of 𝓤 H E i).0 v) → nth 𝓛 (stands s E i) Γ ≡ ‵ (froom (spot_of 𝓤 H E i).0 (spot_of 𝓤 H E i).1 zero)
          → Step K 𝓛 (put 𝓛 (stands s E i) (‵ (fat full_share (spot_of 𝓤 H E i).0 (spot_of 𝓤 H E i).1 zero v)) Γ) (runs C Λ E rest Q) Γ (runs C Λ E (seq (assign (place i []) (rv_opd x)) rest) Q)
      takes_as t s {i} {σ} h same e = step (λ k. by t (via 𝓤 (guard 𝓤 (Fits σ v) (⋆ 𝓛 Γ)) h.fits (guard_e 𝓤 (Fits σ v) (⋆ 𝓛 Γ) (λ wt.
          let stored : Seq K 𝓛 Γ (runs C Λ E (seq (assign (place i []) (rv_opd x)) rest) Q) = assigns t (of_opd t h.opd) (from t (stop t)) (init t (stands s E i) e (same wt)) $ k in stored.prf))))

      pub takes : K → (s : ℕ) {i : ℕ} → Held K 𝓛 Γ E x (spot_of 𝓤 H E i).0 v → nth 𝓛 (stands s E i) Γ ≡ ‵ (froom (spot_of 𝓤 H E i).0 (spot_of 𝓤 H E i).1 zero)
          → Step K 𝓛 (put 𝓛 (stands s E i) (‵ (fat full_share (spot_of 𝓤 H E i).0 (spot_of 𝓤 H E i).1 zero v)) Γ) (runs C Λ E rest Q) Γ (runs C Λ E (seq (assign (place i []) (rv_opd x)) rest) Q)
      takes t s {i} h e = takes_as t s h (λ wt. wt) e

      -- local i points to the cell at entry n
      pub stores : K → (s n : ℕ) {i : ℕ} {r : Share} {τ : Ty} {b o : ℕ} {v₀ : Val} → Held K 𝓛 Γ E x τ v → nth 𝓛 (stands s E i) Γ ≡ ‵ (fat r (spot_of 𝓤 H E i).0 (spot_of 𝓤 H E i).1 zero (vptr b o))
          → nth 𝓛 n Γ ≡ ‵ (fat full_share (raw_ty τ) b o v₀)
          → Step K 𝓛 (put 𝓛 n (‵ (fat full_share (raw_ty τ) b o v)) Γ) (runs C Λ E rest Q) Γ (runs C Λ E (seq (assign (place i (deref τ ∷ [])) (rv_opd x)) rest) Q)
      stores t s n {i} {r} {τ} {b} {o} {v₀} h e d = step (λ k. by t (via 𝓤 (guard 𝓤 (Fits τ v) (⋆ 𝓛 Γ)) h.fits (guard_e 𝓤 (Fits τ v) (⋆ 𝓛 Γ) (λ wt.
          let stored : Seq K 𝓛 Γ (runs C Λ E (seq (assign (place i (deref τ ∷ [])) (rv_opd x)) rest) Q) = assigns t (of_opd t h.opd) (from t (hop t (look t (stands s E i) e) (stop t))) (store_raw t n d wt) $ k in stored.prf))))

    -- a struct of two fields is made of two operands
    pub packs : K → (s : ℕ) {C : Calls 𝓤 H} {Λ : Loops 𝓤 H} {Q : Post 𝓤 H} {rest : Code} {i : ℕ} {x y : Operand} {σ τ : Ty} {u v : Val} {ν : Sym} → Held K 𝓛 Γ E x σ u → Held K 𝓛 Γ E y τ v
        → (spot_of 𝓤 H E i).0 ≡ ty_struct ν (tcons σ (tcons τ tnil)) → nth 𝓛 (stands s E i) Γ ≡ ‵ (froom (spot_of 𝓤 H E i).0 (spot_of 𝓤 H E i).1 zero)
        → Step K 𝓛 (put 𝓛 (stands s E i) (‵ (fat full_share (spot_of 𝓤 H E i).0 (spot_of 𝓤 H E i).1 zero (vstruct (vcons u (vcons v vnil))))) Γ) (runs C Λ E rest Q) Γ (runs C Λ E (seq (assign (place i []) (aggregate (x ∷ y ∷ []))) rest) Q)
    packs t s {C} {Λ} {Q} {rest} {i} {x} {y} {σ} {τ} {u} {v} {ν} h k m e = step (λ next. by t (via 𝓤 (guard 𝓤 (Fits σ u) (⋆ 𝓛 Γ)) h.fits (guard_e 𝓤 (Fits σ u) (⋆ 𝓛 Γ) (λ a. via 𝓤 (guard 𝓤 (Fits τ v) (⋆ 𝓛 Γ)) k.fits (guard_e 𝓤 (Fits τ v) (⋆ 𝓛 Γ) (λ b.
        let fits : Fits (ty_struct ν (tcons σ (tcons τ tnil))) (vstruct (vcons u (vcons v vnil))) = (T-both (has_ty σ u) (has_ty τ v && true) a.0 (T-both (has_ty τ v) true b.0 tt), (a.1, (b.1, tt))) in
        let stored : Seq K 𝓛 Γ (runs C Λ E (seq (assign (place i []) (aggregate (x ∷ y ∷ []))) rest) Q) =
        assigns t (agg t (and_then t h.opd (and_then t k.opd (no_more t)))) (from t (stop t)) (init t (stands s E i) e (subst (λ (ρ : Ty). Fits ρ (vstruct (vcons u (vcons v vnil)))) (sym m) fits)) $ next in stored.prf))))))

    pub gone : K → (s : ℕ) {τ : Ty} {b : ℕ} {v : Val} {g : Goal 𝓤 H} → nth 𝓛 (s + 2 * length E) Γ ≡ ‵ (fat full_share τ b zero v) → nth 𝓛 (s + 2 * length E) (del 𝓛 (s + 2 * length E) Γ) ≡ ‵ (fdies τ b)
        → Step K 𝓛 (del 𝓛 (s + 2 * length E) (del 𝓛 (s + 2 * length E) Γ)) (frees E g) Γ (frees ((τ, b) ∷ E) g)
    gone t s {τ} {b} {v} {g} e d =
        let n : ℕ = s + 2 * length E in
        let Δ : List (Item 𝓤) = del 𝓛 n (del 𝓛 n Γ) in
        step (λ k. let freed : Seq K 𝓛 (‵ (fat full_share τ b zero v) ∷ ‵ (fdies τ b) ∷ Δ) (frees ((τ, b) ∷ E) g) = forget t 0 refl $ free1 t $ k in
        by t (via 𝓤 (⋆ 𝓛 (‵ (fat full_share τ b zero v) ∷ ‵ (fdies τ b) ∷ Δ)) (subst₂ (λ (i j : Item 𝓤). ent 𝓤 (⋆ 𝓛 Γ) (⋆ 𝓛 (i ∷ j ∷ Δ))) e d (sel⊢ 𝓛 (n ∷ n ∷ []) Γ)) freed.prf))

  module _ {G : Goal 𝓤 H} where
    -- entry n is taken to the front, and nothing stands in its place
    pub hole : K → (n : ℕ) → Step K 𝓛 (nth 𝓛 n Γ ∷ put 𝓛 n (‵ ftrue) Γ) G Γ G
    hole t n = step (λ k. by t (via 𝓤 (sep 𝓤 (mean 𝓛 (nth 𝓛 n Γ)) (⋆ 𝓛 (del 𝓛 n Γ))) (pull 𝓛 n Γ)
        (via 𝓤 (⋆ 𝓛 (nth 𝓛 n Γ ∷ put 𝓛 n (‵ ftrue) Γ))
        (via 𝓤 (sep 𝓤 (mean 𝓛 (nth 𝓛 n Γ)) (⋆ 𝓛 (put 𝓛 n (‵ ftrue) Γ)))
        (mono_r 𝓤 (mean 𝓛 (nth 𝓛 n Γ)) (via 𝓤 (sep 𝓤 (emp 𝓤) (⋆ 𝓛 (del 𝓛 n Γ))) (emp∗ 𝓤 (⋆ 𝓛 (del 𝓛 n Γ))) (fill 𝓛 n (‵ ftrue) Γ)))
        (push 𝓛 (nth 𝓛 n Γ) (put 𝓛 n (‵ ftrue) Γ))) k.prf)))

    -- the head is put there
    pub fills : K → (n : ℕ) {i : Item 𝓤} → nth 𝓛 n Γ ≡ ‵ ftrue → Step K 𝓛 (put 𝓛 n i Γ) G (i ∷ Γ) G
    fills t n {i} e = step (λ k. by t (via 𝓤 (sep 𝓤 (mean 𝓛 i) (⋆ 𝓛 Γ)) (pop 𝓛 i Γ)
        (via 𝓤 (sep 𝓤 (mean 𝓛 i) (⋆ 𝓛 (del 𝓛 n Γ)))
        (mono_r 𝓤 (mean 𝓛 i) (via 𝓤 (sep 𝓤 (mean 𝓛 (nth 𝓛 n Γ)) (⋆ 𝓛 (del 𝓛 n Γ))) (pull 𝓛 n Γ) (snd∗ 𝓤 (mean 𝓛 (nth 𝓛 n Γ)) (⋆ 𝓛 (del 𝓛 n Γ)))))
        (via 𝓤 (⋆ 𝓛 (put 𝓛 n i Γ)) (fill 𝓛 n i Γ) k.prf))))

-- ---- the laws of types, and a run that meets its contract
module _ {M : Type 1} {𝓤 : Ura M} (𝓛 : Logic 𝓤) where
  open 𝓛 use {H}

  abbrev pub Law : RattleType → Type 1
  Law R = (spell : R.Denot → Val) × (Tells R (Is R) (λ x. spell x ∷ []) × Lawful 𝓛 R)

  abbrev pub struct_law : (N : Declared) → LL.Laws N → Law (row N)
  struct_law N ls = (LL.val N ls, (LL.tells N ls, LL.lawful N ls 𝓛))

  abbrev pub enum_law : (N : ED.Declared) (ls : EL.Laws N) → Few (ED.shape N) → Law (ED.row N)
  enum_law N ls few = (EL.val N ls, (EL.tells N ls, EL.lawful N ls 𝓛 few))

  abbrev pub mut_law : (κ : Lft) (R : RattleType) → Law (MutRef (named 0) κ R)
  mut_law κ R = ((λ x. vptr x.ref_ptr.0 x.ref_ptr.1), (mut_Tells (named 0) κ R, mut_Lawful 𝓛 (named 0) κ R))

  abbrev pub Laws : List RattleType → Type 1
  Laws [] = Unit {1}
  Laws (R ∷ Rs) = Law R × Laws Rs

  abbrev spells : (Rs : List RattleType) → Laws Rs → Spells Rs
  spells [] ls = tt
  spells (R ∷ Rs) ls = ((λ x. ls.0.0 x ∷ []), spells Rs ls.1)

  tellss : (Rs : List RattleType) (ls : Laws Rs) → Tellss Rs (Ises Rs) (spells Rs ls)
  tellss [] ls = tt
  tellss (R ∷ Rs) ls = (ls.0.1.0, tellss Rs ls.1)

  lawfuls : (Rs : List RattleType) → Laws Rs → Lawfuls 𝓛 Rs
  lawfuls [] ls = tt
  lawfuls (R ∷ Rs) ls = (ls.0.1.1, lawfuls Rs ls.1)

  module _ (S : Signature) (c : Spec 𝓤 S) (run : Fun 𝓤) (ls : (κs : Lfts S.lifetimes) → Laws (types_at S.params κs)) where
    abbrev vals : (κs : Lfts S.lifetimes) → Args S κs → Vals S κs
    vals κs = valss (types_at S.params κs) (spells (types_at S.params κs) (ls κs))

    pub met : ((κs : Lfts S.lifetimes) (qs : Shares S.lifetimes) (bounds : AllOutlive S.lifetimes S.outlives κs) (a : Args S κs) (g : (c κs a).ghost) → Typed (mirs (types_at S.params κs)) (flat (types_at S.params κs) (vals κs a))
        → ent 𝓤 ((triple_of 𝓛 S c).pre ((κs, qs, bounds, a, vals κs a), g)) (run (flat (types_at S.params κs) (vals κs a)) ((triple_of 𝓛 S c).post ((κs, qs, bounds, a, vals κs a), g))))
        → Meets 𝓛 S run c
    met walk y =
        let κs : Lfts S.lifetimes = y.0.0 in
        let Rs : List RattleType = types_at S.params κs in
        let R : SProp 𝓤 = (c κs y.0.3).requires y.1 in
        let Q : Vals S κs → SProp 𝓤 = λ us. run (flat Rs us) ((triple_of 𝓛 S c).post ((κs, y.0.1, y.0.2, y.0.3, us), y.1)) in
        via 𝓤 (sep 𝓤 R (wand 𝓤 R (Q y.0.4)))
        (via 𝓤 (sep 𝓤 (wand 𝓤 R (Q y.0.4)) R)
        (mono_l 𝓤 R (said 𝓛 S κs y.0.1 (spells Rs (ls κs)) (tellss Rs (ls κs)) y.0.3 (λ us. wand 𝓤 R (Q us)) y.0.4 (λ are. wand_i 𝓤 _ R _ (walk κs y.0.1 y.0.2 y.0.3 y.1 (all_Typed 𝓛 Rs (lawfuls Rs (ls κs)) y.0.3 _ are)))))
        (comm∗ 𝓤 (wand 𝓤 R (Q y.0.4)) R))
        (apply∗ 𝓤 R (Q y.0.4))

  -- ---- what there is after a call
  module _ (Tok : SProp 𝓤) where
    module _ (X : RattleType) (E : X.Denot → SProp 𝓤) (v : Val) where
      abbrev pub Result : X.Denot → SProp 𝓤
      Result x = sep 𝓤 (sep 𝓤 Tok (sem 𝓛 (X.own_val x (v ∷ [])))) (E x)

      abbrev pub After : SProp 𝓤
      After = H.⇛ (ex 𝓤 Result)

      pub answered : (τ : Ty) → ((x : X.Denot) → Is X x (v ∷ []) → Typed (τ ∷ []) (v ∷ [])) → (Q : SProp 𝓤) → ((x : X.Denot) → ent 𝓤 (Result x) Q) → ent 𝓤 After (H.⇛ (guard 𝓤 (Typed (τ ∷ []) (v ∷ [])) Q))
      answered τ typed Q k =
          qed 𝓛 (later (some (λ (x : X.Denot). (raw Tok ⊛ ‵ (X.own_val x (v ∷ []))) ⊛ raw (E x))) ∷ []) ∵ updating ! $ await ! tt $ pick ! (λ x. split ! $ split ! $ move ! (1 ∷ []) $
          peeks ! X (Is X) (shows 𝓛 X) x (v ∷ []) (λ is. at_once ! $ check ! (typed x is) $ move ! (1 ∷ 0 ∷ []) $ join ! $ by ! (k x)))

      pub left : (x : X.Denot) → ent 𝓤 (Result x) After
      left x = via 𝓤 (ex 𝓤 Result) (ex_i 𝓤 Result x) (𝓛.laws.⇛_intro (ex 𝓤 Result))

    handed : (E E' : ℕ → SProp 𝓤) → ((n : ℕ) → ent 𝓤 (E n) (E' n)) → (v : Val) → ent 𝓤 (After u64 E v) (H.⇛ (guard 𝓤 (Typed (ty_int w64 ∷ []) (v ∷ [])) (After u64 E' v)))
    handed E E' says v =
        answered u64 E v (ty_int w64) (λ n. (uint_Lawful 𝓛 w64).typed n (v ∷ [])) (After u64 E' v) (λ n. via 𝓤 (Result u64 E' v n) (mono_r 𝓤 (sep 𝓤 Tok (sem 𝓛 (u64.own_val n (v ∷ [])))) (says n)) (left u64 E' v n))

  module _ {Y : Type 0} (F : Y → Fml) (y : Y) (pure : Pure (F y)) (holds : shadow (F y)) (φ : Type 0) where
    pub beside : ent 𝓤 (fact 𝓤 φ) (ex 𝓤 (λ (z : Y). sep 𝓤 (sem 𝓛 (F z)) (fact 𝓤 φ)))
    beside = via 𝓤 (sep 𝓤 (sem 𝓛 (F y)) (fact 𝓤 φ)) (via 𝓤 _ (emp∗ 𝓤 (fact 𝓤 φ)) (mono_l 𝓤 (fact 𝓤 φ) (makes_shadow 𝓛 (F y) pure holds))) (ex_i 𝓤 (λ z. sep 𝓤 (sem 𝓛 (F z)) (fact 𝓤 φ)) y)

    pub told : {X : Type 0} (F₀ : X → Fml) → ent 𝓤 (ex 𝓤 (λ (x : X). sep 𝓤 (sem 𝓛 (F₀ x)) (fact 𝓤 φ))) (ex 𝓤 (λ (z : Y). sep 𝓤 (sem 𝓛 (F z)) (fact 𝓤 φ)))
    told F₀ = ex_e 𝓤 _ (λ x. via 𝓤 (fact 𝓤 φ) (snd∗ 𝓤 (sem 𝓛 (F₀ x)) (fact 𝓤 φ)) beside)

module _ {M : Type 1} {𝓤 : Ura M} {𝓛 : Logic 𝓤} {K : Type 0} {Γ : List (Item 𝓤)} where
  open 𝓛 use {H}

  -- what the callee says of its answer x and of the last values z is φ x z
  pub answers : K → (s : ℕ) (Tok : SProp 𝓤) (X : RattleType) (law : Law 𝓛 X) {Z : Type 0} (F : Z → Fml) (φ : X.Denot → Z → Type 0) {E : Env 𝓤 H} {C : Calls 𝓤 H} {Λ : Loops 𝓤 H} {Q : Post 𝓤 H} {rest : Code} {i : ℕ} {u : Val}
      → nth 𝓛 (stands s E i) Γ ≡ ‵ (froom (spot_of 𝓤 H E i).0 (spot_of 𝓤 H E i).1 zero) → X.mir ≡ (spot_of 𝓤 H E i).0 ∷ []
      → ((x : X.Denot) (z : Z) → φ x z → Is X x (law.0 x ∷ [])
      → Seq K 𝓛 (‵ (X.own_val x (law.0 x ∷ [])) ∷ raw Tok ∷ ‵ (F z) ∷ put 𝓛 (stands s E i) (‵ (fat full_share (spot_of 𝓤 H E i).0 (spot_of 𝓤 H E i).1 zero (law.0 x))) Γ) (runs C Λ E rest Q))
      → Seq K 𝓛 (raw (After 𝓛 Tok X (λ x. ex 𝓤 (λ (z : Z). sep 𝓤 (sem 𝓛 (F z)) (fact 𝓤 (φ x z)))) u) ∷ Γ) (lands C Λ E (place i []) u rest Q)
  answers t s Tok X law {Z} F φ {E} {C} {Λ} {Q} {rest} {i} {u} e m k =
      use1 𝓛 (later (some (λ (x : X.Denot). (raw Tok ⊛ ‵ (X.own_val x (u ∷ []))) ⊛ some (λ (z : Z). ‵ (F z) ⊛ raw (fact 𝓤 (φ x z)))))) (id⊢ 𝓤 _) $ await t tt $ pick t (λ x. split t $ move t (1 ∷ []) $ pick t (λ z.
      split t $ move t (1 ∷ []) $ heard t (φ x z) (λ says. move t (1 ∷ []) $ split t $ move t (1 ∷ []) $ peeks t X (Is X) (shows 𝓛 X) x (u ∷ []) (λ is.
      let spelled : u ∷ [] ≡ law.0 x ∷ [] = law.1.0 x (u ∷ []) is in
      let is_spelled : Is X x (law.0 x ∷ []) = subst (Is X x) spelled is in
      let typed : Typed ((spot_of 𝓤 H E i).0 ∷ []) (law.0 x ∷ []) = subst (λ τs. Typed τs (law.0 x ∷ [])) m (law.1.1.typed x (law.0 x ∷ []) is_spelled) in
      let landed : Seq K 𝓛 (‵ (X.own_val x (law.0 x ∷ [])) ∷ raw Tok ∷ ‵ (F z) ∷ Γ) (lands C Λ E (place i []) (law.0 x) rest Q) = land t (from t (stop t)) (init t (suc (suc (suc (stands s E i)))) e typed.0) $ k x z says is_spelled in
      subst (λ (w : Val). Seq K 𝓛 (‵ (X.own_val x (w ∷ [])) ∷ raw Tok ∷ ‵ (F z) ∷ Γ) (lands C Λ E (place i []) w rest Q)) (sym (ap only spelled)) landed))))

  -- the callee's number is the caller's answer
  pub hands : K → (s : ℕ) (Tok : SProp 𝓤) (F F' : ℕ → SProp 𝓤) → ((n : ℕ) → ent 𝓤 (F n) (F' n)) → {E : Env 𝓤 H} {C : Calls 𝓤 H} {Λ : Loops 𝓤 H} {Q : Post 𝓤 H} {rest : Code} {i : ℕ} {v : Val}
      → nth 𝓛 (stands s E i) Γ ≡ ‵ (froom (spot_of 𝓤 H E i).0 (spot_of 𝓤 H E i).1 zero) → (spot_of 𝓤 H E i).0 ≡ ty_int w64
      → Step K 𝓛 (raw (After 𝓛 Tok u64 F' v) ∷ put 𝓛 (stands s E i) (‵ (fat full_share (spot_of 𝓤 H E i).0 (spot_of 𝓤 H E i).1 zero v)) Γ) (runs C Λ E rest Q) (raw (After 𝓛 Tok u64 F v) ∷ Γ) (lands C Λ E (place i []) v rest Q)
  hands t s Tok F F' says {E} {C} {Λ} {Q} {rest} {i} {v} e m = step (λ k.
      use1 𝓛 (later (given (Typed (ty_int w64 ∷ []) (v ∷ [])) (raw (After 𝓛 Tok u64 F' v)))) (handed 𝓛 Tok F F' says v) $ await t tt $ learn t (λ typed.
      land t (from t (stop t)) (init t (suc (stands s E i)) e (subst (λ (τ : Ty). Fits τ v) (sym m) typed.0)) $ k))

  -- ---- what lies behind a `&mut`, written out
  module _ {G : Goal 𝓤 H} where
    pub opens_at : K → Soaks G → (R : RattleType) (law : Law 𝓛 R) {κ : Lft} {q : Share} (h : R.Denot) {γ : GName} (b o : ℕ)
        → Step K 𝓛 (‵ (cell_at full_share R.mir (law.0 h ∷ []) b o) ∷ ‵ (R.own_val h (law.0 h ∷ [])) ∷ ‵ (fobor κ q (Body (mem R) b o γ)) ∷ ‵ (fobs γ (R.coded.code h)) ∷ ‵ (fauth γ (R.coded.code h)) ∷ Γ) G
        (‵ (fobs γ (R.coded.code h)) ∷ ‵ (fbor κ (Body (mem R) b o γ)) ∷ ‵ (flft κ q) ∷ Γ) G
    opens_at t a R law h b o = step (λ k. opens t a R {h = h} b o (λ vs. spelt t R (Is R) (shows 𝓛 R) (λ x. law.0 x ∷ []) law.1.0 full_share h vs b o $ k))

-- ---- a local that is lent for a call: its machine type is τ
-- the reference to a local, under the name γ
abbrev pub ref_to : {X : Type 0} → X → ℕ → GName → MutBor X
ref_to h b γ = record { ref_ptr = (b, zero); ghost_name = γ; now = h }

module _ {M : Type 1} {𝓤 : Ura M} (𝓛 : Logic 𝓤) (R : RattleType) (law : Law 𝓛 R) (τ : Ty) (m : R.mir ≡ τ ∷ []) (h : R.Denot) (b : ℕ) where
  open 𝓛 use {H}

  abbrev lies : Fml
  lies = cell_at full_share R.mir (law.0 h ∷ []) b zero

  -- what it holds is what a borrow of it holds, and back
  lies_in : ent 𝓤 (sep 𝓤 (H.at full_share τ b zero (law.0 h)) (sem 𝓛 (R.own_val h (law.0 h ∷ [])))) (sem 𝓛 (part_at R full_share h b zero))
  unfolding part_of
  lies_in =
      qed 𝓛 (‵ (fat full_share τ b zero (law.0 h)) ∷ ‵ (R.own_val h (law.0 h ∷ [])) ∷ []) ∵
      use1 𝓛 (‵ lies) (subst (λ (τs : List Ty). ent 𝓤 (H.at full_share τ b zero (law.0 h)) (sem 𝓛 (cell_at full_share τs (law.0 h ∷ []) b zero))) (sym m) (𝓛.laws.at_raw full_share τ b zero (law.0 h))) $
      fjoin ! $ fpack ! (List Val) (λ vs. fsep (cell_at full_share R.mir vs b zero) (R.own_val h vs)) (law.0 h ∷ []) $ done !

  lies_out : ent 𝓤 (sem 𝓛 (part_at R full_share h b zero)) (sep 𝓤 (H.at full_share τ b zero (law.0 h)) (sem 𝓛 (R.own_val h (law.0 h ∷ []))))
  unfolding part_of
  lies_out =
      qed 𝓛 (‵ (part_at R full_share h b zero) ∷ []) ∵ fpick ! (λ vs. fsplit ! $ spelt ! R (Is R) (shows 𝓛 R) (λ x. law.0 x ∷ []) law.1.0 full_share h vs b zero $
      use1 𝓛 (‵ (fat full_share τ b zero (law.0 h))) (subst (λ (τs : List Ty). ent 𝓤 (sem 𝓛 (cell_at full_share τs (law.0 h ∷ []) b zero)) (H.at full_share τ b zero (law.0 h))) (sym m) (𝓛.laws.raw_at full_share τ b zero (law.0 h))) $ done !)

module _ {M : Type 1} {𝓤 : Ura M} {𝓛 : Logic 𝓤} {K : Type 0} {Γ : List (Item 𝓤)} {G : Goal 𝓤 𝓛.H} where
  -- for a lifetime ν that is made for the call, under a name γ
  pub lends : K → Soaks G → (R : RattleType) (law : Law 𝓛 R) {τ : Ty} → R.mir ≡ τ ∷ [] → (h : R.Denot) {b : ℕ}
      → ((ν : ℕ) (γ : GName) → Seq K 𝓛 (‵ (flft (ν ∷ []) full_share) ∷ ‵ ((MutRef (named 0) (ν ∷ []) R).own_val (ref_to h b γ) (vptr b zero ∷ [])) ∷ ‵ (flent (ν ∷ []) (Body (mem R) b zero γ)) ∷ Γ) G)
      → Seq K 𝓛 (‵ (fat full_share τ b zero (law.0 h)) ∷ ‵ (R.own_val h (law.0 h ∷ [])) ∷ Γ) G
  lends t a R law {τ} m h {b} k =
      use2 𝓛 (‵ (part_at R full_share h b zero)) (lies_in 𝓛 R law τ m h b) $ lft_new t a (λ ν. move t (1 ∷ []) $
      use1 𝓛 (later (some (λ (γ : GName). ‵ ((MutRef (named 0) (ν ∷ []) R).own_val (ref_to h b γ) (vptr b zero ∷ [])) ⊛ ‵ (flent (ν ∷ []) (Body (mem R) b zero γ))))) (lends_ref 𝓛 R (named 0) (ν ∷ []) h b zero) $ await t a $
      pick t (λ γ. split t $ move t (2 ∷ 0 ∷ []) $ k ν γ))

  -- it comes back at its last value z
  pub comes_back : K → Soaks G → (R : RattleType) (law : Law 𝓛 R) {τ : Ty} → R.mir ≡ τ ∷ [] → {b ν : ℕ} {γ : GName} (z : R.Denot)
      → Step K 𝓛 (‵ (fat full_share τ b zero (law.0 z)) ∷ ‵ (R.own_val z (law.0 z ∷ [])) ∷ Γ) G (‵ (flft (ν ∷ []) full_share) ∷ ‵ (flent (ν ∷ []) (Body (mem R) b zero γ)) ∷ ‵ (fres γ (R.coded.code z)) ∷ Γ) G
  comes_back t a R law {τ} m {b} {ν} {γ} z = step (λ k. lft_end t a $ use3 𝓛 (later (‵ (part_at R full_share z b zero))) (ref_back 𝓛 R (ν ∷ []) γ z b zero) $ await t a $
      use1 𝓛 (‵ (fat full_share τ b zero (law.0 z)) ⊛ ‵ (R.own_val z (law.0 z ∷ []))) (lies_out 𝓛 R law τ m z b) $ split t $ k)
