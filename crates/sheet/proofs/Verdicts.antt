-- What reading through to the end tells: whether the words are the written form of something valid, and whether two tables are equal.
use Rattle.std.proofs.Common.{◌≡◌, ℕ, Bool, true, List, [], ◌∷◌, Ok, Err, Result, sym, refl, ap, ◌∙◌, subst, arith}
use Rattle.reckoning.specs.Algebra.{Algebra}
use Rattle.reckoning.specs.Laws.{Laws}
use Rattle.faults.specs.declared.fault.SheetFault.{SheetFault}
use Rattle.faults.specs.declared.fault.TableFault.{TableFault}
use Rattle.sheet.specs.Laws.{WholeSheets, WholeTables, SameWeights, ToldByWeights}
use Rattle.sheet.specs.ReadSheet.{read_sheet}
use Rattle.sheet.specs.ReadTable.{read_table}
use Rattle.sheet.specs.Reading.{Reading, item, whole, fault, on_read, erased, Built, put, built}
use Rattle.sheet.specs.Syntax.{Card, Sheet}
use Rattle.sheet.specs.Valid.{valid_table}
use Rattle.sheet.specs.Verify.{verdict, same_tables}
use Rattle.sheet.specs.Weight.{same, weight}
use Rattle.sheet.specs.Written.{table_words}
use Rattle.sheet.proofs.EqualTables.{equal_tables, same_words}
use Rattle.sheet.proofs.Passed.{ok_same}
use Rattle.sheet.proofs.RowOrder.{same_true, same_refl}
use Rattle.sheet.proofs.SheetsLaws.{only_written_sheets, sheets_read_back}
use Rattle.sheet.proofs.TablesLaws.{only_written_tables, tables_read_back}

clash : {A E : Type 0} (x : A) (f : E) → Ok x ≡ Err f → ⊥
clash x f e = let z : ◌≡◌ {A = ℕ} 0 1 = cc in omega arith

module _ {F : Type 0} where
  pub verdict_built : (t : Reading F) → verdict t ≡ erased (built t)
  unfolding verdict built
  verdict_built whole = refl
  verdict_built (fault f) = refl
  verdict_built (item e t) = verdict_built t ∙ go (built t)
    where
      go : (r : Result Built F) → erased r ≡ erased (on_read (λ f. f) r (λ b. Ok (put e b)))
      go (Ok b) = refl
      go (Err f) = refl

-- an answer that is made from what was read is erased alike
pub erased_read : {A B E : Type 0} (r : Result A E) (f : A → B) → erased r ≡ erased (on_read (λ e. e) r (λ x. Ok (f x)))
erased_read (Ok x) f = refl
erased_read (Err e) f = refl

module _ {W : Type 0} (a : Algebra W) (laws : Laws a) where
  pub sheet_told : (ws : List ℕ) (r : Result (Unit {0}) SheetFault) → r ≡ erased (read_sheet a ws) → WholeSheets a ws r
  sheet_told ws r e = subst (WholeSheets a ws) (sym e) (go (read_sheet a ws) refl)
    where
      go : (s : Result Sheet SheetFault) → read_sheet a ws ≡ s → WholeSheets a ws (erased s)
      go (Ok s) read = let held = only_written_sheets laws ws s read in (s, held.0, held.1)
      go (Err f) read = λ s valid written. clash s f (sym (ap (read_sheet a) written ∙ sheets_read_back a laws s valid) ∙ read)

  pub table_told : (sheet ws : List ℕ) (r : Result (Unit {0}) TableFault) → r ≡ erased (read_table a sheet ws) → WholeTables a sheet ws r
  table_told sheet ws r e = subst (WholeTables a sheet ws) (sym e) (go (read_table a sheet ws) refl)
    where
      go : (c : Result (List Card) TableFault) → read_table a sheet ws ≡ c → WholeTables a sheet ws (erased c)
      go (Ok cards) read = let (s, t, found, one, valid, written) = only_written_tables a sheet ws cards read in (s, t, found, valid, written)
      go (Err f) read = λ s t found valid written. clash (t ∷ []) f (sym (ap (read_table a sheet) written ∙ tables_read_back a laws sheet s t found valid) ∙ read)

  -- two valid tables of one sheet are the same words exactly where they give the same weights
  weights_told : (s : Sheet) (t u : Card) (left right : List ℕ) → valid_table a s t ≡ true → valid_table a s u ≡ true → left ≡ table_words t → right ≡ table_words u
      → (same left right ≡ true → SameWeights a s t u) × (SameWeights a s t u → same left right ≡ true)
  weights_told s t u left right v w l r = (
    (λ e. let words : table_words t ≡ table_words u = sym l ∙ same_true left right e ∙ r in
        let one : t ≡ u = same_words a s t u v w words in
        λ values ranged. ap (λ c. weight a c values) one),
    (λ h. let words : left ≡ right = l ∙ equal_tables a laws s t u v w h ∙ sym r in
        subst (λ (ys : List ℕ). same left ys ≡ true) words (same_refl left)),
  )

  pub tables_told : (sheet left right : List ℕ) (r : Result Bool TableFault) → r ≡ same_tables a sheet left right → ToldByWeights a sheet left right r
  tables_told sheet left right r e = subst (ToldByWeights a sheet left right) (sym e) (go (read_table a sheet left) (read_table a sheet right) refl refl)
    where
      both : (cards more : List Card) → read_table a sheet left ≡ Ok cards → read_table a sheet right ≡ Ok more → ToldByWeights a sheet left right (Ok (same left right))
      both cards more first second =
          let (s, t, found, one, valid, written) = only_written_tables a sheet left cards first in
          let (s', u, found', one', valid', written') = only_written_tables a sheet right more second in
          let one-sheet : s' ≡ s = ok_same (sym found' ∙ found) in
          let valid'' : valid_table a s u ≡ true = ap (λ x. valid_table a x u) (sym one-sheet) ∙ valid' in
          let told = weights_told s t u left right valid valid'' written written' in
          (s, t, u, found, valid, valid'', written, written', told.0, told.1)

      go : (c d : Result (List Card) TableFault) → read_table a sheet left ≡ c → read_table a sheet right ≡ d
          → ToldByWeights a sheet left right (on_read (λ f. f) c (λ _. on_read (λ f. f) d (λ _. Ok (same left right))))
      go (Ok cards) (Ok more) first second = both cards more first second
      go (Ok cards) (Err f) first second = tt
      go (Err f) d first second = tt

-- what comes of two readings, from whether each was read
module _ {A B C E : Type 0} (c : Result A E) (d : Result B E) (x : C) where
  pub first_fails : (f : E) → Err f ≡ erased c → Err f ≡ on_read (λ f. f) c (λ _. on_read (λ f. f) d (λ _. Ok x))
  first_fails f e = go c e
    where
      go : (c : Result A E) → Err f ≡ erased c → Err f ≡ on_read (λ f. f) c (λ _. on_read (λ f. f) d (λ _. Ok x))
      go (Ok y) e = absurd (clash tt f (sym e))
      go (Err g) e = cc

  pub second_fails : (f : E) → Ok tt ≡ erased c → Err f ≡ erased d → Err f ≡ on_read (λ f. f) c (λ _. on_read (λ f. f) d (λ _. Ok x))
  second_fails f first second = go c d first second
    where
      go : (c : Result A E) (d : Result B E) → Ok tt ≡ erased c → Err f ≡ erased d → Err f ≡ on_read (λ f. f) c (λ _. on_read (λ f. f) d (λ _. Ok x))
      go (Ok y) (Ok z) first second = absurd (clash tt f (sym second))
      go (Ok y) (Err g) first second = cc
      go (Err g) d first second = absurd (clash tt g first)

  pub both_read : Ok tt ≡ erased c → Ok tt ≡ erased d → Ok x ≡ on_read (λ f. f) c (λ _. on_read (λ f. f) d (λ _. Ok x))
  both_read first second = go c d first second
    where
      go : (c : Result A E) (d : Result B E) → Ok tt ≡ erased c → Ok tt ≡ erased d → Ok x ≡ on_read (λ f. f) c (λ _. on_read (λ f. f) d (λ _. Ok x))
      go (Ok y) (Ok z) first second = refl
      go (Ok y) (Err g) first second = absurd (clash tt g second)
      go (Err g) d first second = absurd (clash tt g first)
