-- A cell at its machine value, and a box on the heap. Assumes `Logic`.
--     word          a cell as it is stored: the address and the mark
--     shut          a cell by value, made of what it owns at its mark
--     Z, boxed      the row of the heap's handle, and a box there with its value's row and laws
use Rattle.std.proofs.Common.{ℕ, ◌<◌, ◌^◌, List, [], ◌∷◌, refl, w64}
use seplogic.Ra.Ura.{Ura}
use mir.Raw.{raw as bare}
use mir.Syntax.{Dict, impl, tcons, tnil, dnil}
use mir.Val.{Val, vptr, vint, vstruct, vcons, vnil}
use types.Logic.{Logic}
use types.Kit.{Item, Goal, Step, step, ‵, ◌$◌, fjoin, fpack, feq_i}
use denote.RattleType.{RattleType, Valss}
use denote.Builtin.{RawPtr, u64}
use denote.Exit.{no}
use denote.Param.{arg, layout}
use denote.Param.Laws.{Laws, arg_laws}
use denote.Plain.{uint_Makes}
use denote.RawPtr.{block_ptr}
use denote.Steps.{nothing, owned}
use denote.Struct.Struct.{within}
use denote.Struct.Owning.{shape}
use Rattle.std_alloc.proofs.BoxSteps.Form as box
use Rattle.std_heap.specs.contracts.Global as Heap
use Rattle.std_heap.specs.contracts.GlobalAllocator.TheImpl.{ghosts, dict}
use Rattle.std_heap.proofs.Global.TheLaws as heap
use Rattle.timer_ffi_base.specs.Cells.{owned_at}
use Rattle.timer_ffi_base.specs.contracts.heap_cell.HeapCell as cell

abbrev pub Z : RattleType
Z = arg (bare (layout Heap.the_row)) no Heap.the_row

-- the handle has nothing to drop
abbrev pub no_drop : Dict
no_drop = impl ("timer_ffi_base::Destruct++none::drop" ∷ []) (tcons (layout Z) tnil) dnil

abbrev pub boxed : (T : RattleType) → Laws T → box.Bx
boxed T L = record {
  row = T;
  laws = L;
  al = record { row = Z; laws = arg_laws (bare (layout Heap.the_row)) no Heap.the_row heap.the_row_laws refl; g = ghosts; d = dict; drops = no_drop };
}

abbrev pub word : ℕ → ℕ → ℕ → Val
word mark b o = vstruct (vcons (vptr b o) (vcons (vint w64 mark) vnil))

module _ (R : RattleType) {M : Type 1} {𝓤 : Ura M} {𝓛 : Logic 𝓤} {K : Type 0} {Γ : List (Item 𝓤)} {Goal' : Goal 𝓤 𝓛.H} where
  pub shut : K → (mark b o : ℕ) (s : R.Denot) → mark < 2 ^ 64
      → Step K 𝓛 (‵ ((cell.the_row R).own_val (record { at = block_ptr b o; mark = mark; state = s }) (word mark b o ∷ [])) ∷ Γ) Goal'
      (‵ (owned_at R mark (block_ptr b o) s) ∷ Γ) Goal'
  shut t mark b o s small = step (λ rest.
      nothing t $ owned t u64 _ (uint_Makes 𝓛 w64) mark _ (refl, small) $ fjoin t $
      feq_i t (List Val) (vptr b o ∷ []) (vptr b o ∷ []) refl $ fjoin t $
      feq_i t (List Val) (word mark b o ∷ []) (word mark b o ∷ []) refl $ fjoin t $
      fpack t (Valss (RawPtr ∷ u64 ∷ [])) (within (shape (cell.the_type R)) (block_ptr b o, (mark, tt)) (word mark b o ∷ [])) (
        vptr b o ∷ [],
        (vint w64 mark ∷ [], tt),
      ) $ fjoin t $ rest)
