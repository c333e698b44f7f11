-- Valid cards that were written are read back, and cards that are read without a fault are the written form of valid cards, those that are read; and so is the end.
use Rattle.std.proofs.Common.{◌≡◌, ℕ, zero, suc, ◌+◌, ◌-◌, ◌*◌, ◌^◌, ◌<◌, ◌≤◌, Bool, true, false, cond, eqb, List, [], ◌∷◌, ◌++◌, map, length, get_or, drop, Some, None, Ok, Option, sym, refl, ap, ◌∙◌, append_assoc, add-zero, arith, length-append, length-drop}
use Rattle.std.proofs.lemmas.Nat.{mul-le}
use Rattle.std.proofs.lemmas.List.{append-nil, nil_from_length, length-map}
use Rattle.std.proofs.lemmas.Bool.{and_parts, lt-ltb, eq-eqb, eqb-true}
use Rattle.words.specs.declared.fault.WordFault.{WordFault}
use Rattle.words.specs.declared.layout.Kind.TheVariants as kind
use Rattle.words.specs.Layout.{load_due, word_of}
use Rattle.reckoning.specs.Algebra.{Algebra}
use Rattle.reckoning.specs.Laws.{Laws}
use Rattle.faults.specs.declared.fault.CardFault.{CardFault}
use Rattle.faults.specs.declared.fault.CardFault.TheVariants.{Number}
use Rattle.faults.specs.declared.fault.SheetFault.TheVariants.{End}
use Rattle.sheet.specs.Form.{sheet_form}
use Rattle.sheet.specs.declared.item.CardHead.{CardHead}
use Rattle.faults.specs.Faults.{card_of_word, sheet_of_card, sheet_of_word}
use Rattle.sheet.specs.Loads.{card_of, card_load}
use Rattle.sheet.specs.ReadCard.{card_at, card_from, end_at, ending}
use Rattle.sheet.specs.ReadSheet.{cards_from}
use Rattle.sheet.specs.Reading.{Reading, item, whole, fault, card, end, Built, put, built}
use Rattle.sheet.specs.Rules.{card_fits, covered}
use Rattle.sheet.specs.Scope.{picked, scope_of, mask_of, size_in, all_there}
use Rattle.sheet.specs.Syntax.{Card}
use Rattle.sheet.specs.Valid.{valid_card, valid_cards}
use Rattle.sheet.specs.Written.{rows_words, card_words, cards_words}
use Rattle.sheet.proofs.LoadsLaws.{due_back, due_written, word_back, WordWritten, word_written, card_kept, card_again, scope_fits, rows_fit}
use Rattle.sheet.proofs.Passed.{fault_not_ok, ok_same, on_read_passed, hand_passed, item_passed}
use Rattle.sheet.proofs.RowsLaws.{Small, rows_long, rows_back, RowsWritten, rows_written}
use Rattle.sheet.proofs.ScopesLaws.{SlotsMasked, mask_again, scope_again, sizes_picked, scope_rises, mask_fits, scope_few, slots_of_mask, mask_of_slots}
use Rattle.sheet.proofs.ValidParts.{CardParts, card_parts}

-- nothing is wrong with an END word: both tests of it passed
no_fault_left : (b c : Bool) (m n : ℕ) → cond b (cond c None (Some m)) (Some n) ≡ None → (b ≡ true) × (c ≡ true)
no_fault_left true true m n e = (refl, refl)
no_fault_left true false m n e = let z : ◌≡◌ {A = ℕ} 0 1 = cc in absurd (omega arith)
no_fault_left false c m n e = let z : ◌≡◌ {A = ℕ} 0 1 = cc in absurd (omega arith)

pub end_word_written : (place : ℕ) (ws : List ℕ) → end_at place ws ≡ Ok None → ws ≡ word_of kind.End place ∷ []
unfolding end_at
end_word_written place ws e =
    let (load, due, e₁) = on_read_passed (λ f. f) (load_due kind.End place ws) _ None e in
    let (same, last) = no_fault_left (eqb load place) (eqb (length ws) 1) (place + 1) place (ok_same e₁) in
    let word = (due_written kind.End place ws load due).0 in
    let none = nil_from_length (drop 1 ws) (rw (length-drop, eqb-true (length ws) 1 last)) in
    word ∙ ap (λ rest. word_of kind.End load ∷ rest) none ∙ ap (λ n. word_of kind.End n ∷ []) (eqb-true load place same)

-- what was read as the end
pub record EndWritten (place : ℕ) (ws : List ℕ) (b : Built) : Type 0 where
  pub words : ws ≡ word_of kind.End place ∷ []
  pub made : b ≡ record { rows = []; cards = []; slots = [] }

module _ {F : Type 0} (rise : WordFault → F) (wrong : ℕ → F) (place : ℕ) where
  pub end_back : (last : ℕ) → last ≡ place → last < 2 ^ 28 → built (ending rise wrong place (word_of kind.End last ∷ [])) ≡ Ok (record { rows = []; cards = []; slots = [] })
  unfolding built end_at
  end_back last here fits = rw (due_back kind.End place last [] fits, eq-eqb last place here)

  pub end_written : (ws : List ℕ) (b : Built) → built (ending rise wrong place ws) ≡ Ok b → EndWritten place ws b
  unfolding built
  end_written ws b e = let (r, read, e₁) = hand_passed rise (end_at place ws) _ b e in by r read e₁
    where
      by : (r : Option ℕ) → end_at place ws ≡ Ok r → built {F = F} (elim r [ None ↦ item (end (place + 1)) whole | Some at ↦ fault (wrong at) ]) ≡ Ok b → EndWritten place ws b
      by None read e = record { words = end_word_written place ws read; made = sym (ok_same e) }
      by (Some at) read e = absurd (fault_not_ok e)

-- slots of a card are slots of its sheet, so none is too large
size_small : (sizes : List ℕ) (i : ℕ) → Small sizes → get_or sizes i 0 ≤ 256
size_small [] i s = omega arith
size_small (x ∷ xs) zero s = s.0
size_small (x ∷ xs) (suc i) s = size_small xs i s.1

dims_small : (sizes ns : List ℕ) → Small sizes → Small (map (size_in sizes) ns)
dims_small sizes [] s = tt
dims_small sizes (n ∷ ns) s = (size_small sizes (n - 1) s, dims_small sizes ns s)

-- what was read as a card, and what comes next
pub record CardWritten {W F : Type 0} (a : Algebra W) (rule : ℕ → Bool) (sizes : List ℕ) (next : ℕ → List ℕ → Reading F) (place : ℕ) (ws : List ℕ) (b : Built) : Type 0 where
  pub one : Card
  pub rest : List ℕ
  pub after : Built
  pub words : ws ≡ card_words one ++ rest
  pub valid : valid_card a rule sizes one ≡ true
  pub goes_on : built (next (place + length (card_words one)) rest) ≡ Ok after
  pub made : after.rows ≡ [] → b ≡ record { rows = []; cards = one ∷ after.cards; slots = after.slots }

module _ {W : Type 0} {a : Algebra W} (laws : Laws a) (rule : ℕ → Bool) (sizes : List ℕ) (twelve : length sizes ≡ 12) (small : Small sizes)
    (c : Card) (valid : valid_card a rule sizes c ≡ true) where
  parts : CardParts a rule sizes c
  parts = card_parts a rule sizes c valid

  masked : SlotsMasked c.scope (mask_of c.scope)
  masked = mask_of_slots sizes c.scope twelve parts.rises parts.there

  pub card_long : length (card_words c) < 2 ^ 20
  card_long =
      let room : length c.rows * (length c.scope + 2) ≤ 65535 * 14 = mul-le _ _ 65535 14 (omega (arith, parts.few)) (omega (arith, scope_few masked)) in
      rw (rows_long a _ None c.rows parts.rowed, length-map) (omega arith)

  pub card_back : {F : Type 0} (rise : CardFault → F) (place : ℕ) (rest : List ℕ) (next : ℕ → List ℕ → Reading F) (cards : List Card)
      → built (next (place + length (card_words c)) rest) ≡ Ok (record { rows = []; cards = cards; slots = [] })
      → built (card_from a rise rule sizes place (card_words c ++ rest) next) ≡ Ok (record { rows = []; cards = c ∷ cards; slots = [] })
  unfolding built card_at
  card_back rise place rest next cards after =
      let head : CardHead = record { scope = mask_of c.scope; rows = length c.rows } in
      let places : place + length (card_words c) ≡ place + 1 + length (rows_words c.rows) = omega arith in
      rw (
        word_back card_of_word kind.Card card_of card_load (card_fits rule) (Number place) place head (rows_words c.rows ++ rest) (card_kept head (mask_fits masked) parts.few) parts.fits,
        sizes_picked masked sizes twelve,
        rows_back laws _ (dims_small sizes c.scope small) rise None c.rows (place + 1) rest next _ parts.rowed (rw places at after),
        append-nil,
        scope_again masked,
      )

module _ {W F : Type 0} (a : Algebra W) (sizes : List ℕ) (twelve : length sizes ≡ 12) (rule : ℕ → Bool)
    (there : (mask : ℕ) → rule mask ≡ true → all_there (picked mask sizes) ≡ true) (next : ℕ → List ℕ → Reading F) where
  word_and_rows_written : (place : ℕ) (ws : List ℕ) (c : CardHead) (others b : Built) → WordWritten kind.Card card_of card_load (card_fits rule) ws c
      → RowsWritten a (picked c.scope sizes) None next c.rows (place + 1) (drop 1 ws) others → b ≡ put (card c) others → CardWritten a rule sizes next place ws b
  word_and_rows_written place ws c others b word rows made =
      let masked = slots_of_mask c.scope (rw (← word.is) (scope_fits word.load)) in
      let few : c.rows < 2 ^ 16 = rw (← word.is) (rows_fit word.load word.small) in
      let places : place + suc (length (rows_words rows.rows)) ≡ place + 1 + length (rows_words rows.rows) = omega arith in
      record {
        one = record { scope = scope_of c.scope; rows = rows.rows };
        rest = rows.rest;
        after = rows.after;
        words = rw (mask_again masked, rows.count) (word.words ∙ ap (λ ws. word_of kind.Card (card_load c) ∷ ws) rows.words);
        valid =
            rw (scope_rises masked, ← sizes_picked masked sizes twelve, there c.scope (and_parts _ _ word.fits).0)
            (rw (mask_again masked, rows.count, word.fits, lt-ltb c.rows (2 ^ 16) few) rows.valid);
        goes_on = rw places rows.goes_on;
        made = λ none. made ∙ rw (rows.made, none, append-nil);
      }

  pub card_written : (rise : CardFault → F) (place : ℕ) (ws : List ℕ) (b : Built) → built (card_from a rise rule sizes place ws next) ≡ Ok b → CardWritten a rule sizes next place ws b
  unfolding card_at
  card_written rise place ws b e =
      let (c, read, e₁) = hand_passed rise (card_at rule place ws) _ b e in
      let (others, e₂, made) = item_passed (card c) _ b e₁ in
      word_and_rows_written place ws c others b
      (word_written card_of_word kind.Card card_of card_load (card_fits rule) (Number place) place card_again ws c read)
      (rows_written a (picked c.scope sizes) next rise c.rows None (place + 1) (drop 1 ws) others e₂)
      made

-- the cards of a sheet and its end
module _ {W : Type 0} {a : Algebra W} (laws : Laws a) (sizes : List ℕ) (twelve : length sizes ≡ 12) (small : Small sizes) where
  pub cards_back : (cards : List Card) (place last : ℕ) → valid_cards a sizes cards ≡ true → place + length (cards_words cards) ≡ last → last < 2 ^ 28
      → built (cards_from a sheet_form (length cards) sizes place (cards_words cards ++ (word_of kind.End last ∷ []))) ≡ Ok (record { rows = []; cards = cards; slots = [] })
  unfolding cards_from cards_words valid_cards
  cards_back [] place last valid e fits = end_back sheet_of_word End place last (omega arith) fits
  cards_back (c ∷ cs) place last valid e fits =
      let places : place + length (card_words c) + length (cards_words cs) ≡ last = omega (arith, rw length-append at e) in
      let (here, others) = and_parts _ _ valid in
      rw (append_assoc (card_words c))
      (card_back laws (covered sizes) sizes twelve small c here sheet_of_card place _ (cards_from a sheet_form (length cs) sizes) cs (cards_back cs (place + length (card_words c)) last others places fits))

  pub cards_long : (cards : List Card) → valid_cards a sizes cards ≡ true → length (cards_words cards) ≤ length cards * 2 ^ 20
  unfolding cards_words valid_cards
  cards_long [] valid = omega arith
  cards_long (c ∷ cs) valid =
      let (here, others) = and_parts _ _ valid in
      let one = card_long laws (covered sizes) sizes twelve small c here in
      let more = cards_long cs others in rw length-append (omega arith)

-- what was read as so many cards and the end of a sheet
pub record CardsWritten {W : Type 0} (a : Algebra W) (sizes : List ℕ) (many place : ℕ) (ws : List ℕ) (b : Built) : Type 0 where
  pub no_rows : b.rows ≡ []
  pub no_slots : b.slots ≡ []
  pub count : length b.cards ≡ many
  pub valid : valid_cards a sizes b.cards ≡ true
  pub words : ws ≡ cards_words b.cards ++ (word_of kind.End (place + length (cards_words b.cards)) ∷ [])

module _ {W : Type 0} (a : Algebra W) (sizes : List ℕ) where
  no_cards_written : (place : ℕ) (ws : List ℕ) (b : Built) → EndWritten place ws b → CardsWritten a sizes 0 place ws b
  unfolding cards_words valid_cards
  no_cards_written place ws b ending =
      rw ending.made (record { no_rows = refl; no_slots = refl; count = refl; valid = refl; words = rw add-zero ending.words })

  more_cards_written : (many place : ℕ) (ws : List ℕ) (b : Built) → (c : CardWritten a (covered sizes) sizes (cards_from a sheet_form many sizes) place ws b)
      → CardsWritten a sizes many (place + length (card_words c.one)) c.rest c.after → CardsWritten a sizes (suc many) place ws b
  unfolding cards_words valid_cards
  more_cards_written many place ws b c more =
      let places : place + length (card_words c.one) + length (cards_words c.after.cards) ≡ place + length (card_words c.one ++ cards_words c.after.cards) =
      rw (length-append (card_words c.one)) (omega arith) in
      rw (c.made more.no_rows) (record {
        no_rows = refl;
        no_slots = more.no_slots;
        count = ap suc more.count;
        valid = rw c.valid more.valid;
        words = rw (append_assoc (card_words c.one), ← places) (c.words ∙ ap (λ rest. card_words c.one ++ rest) more.words);
      })

  pub cards_written : length sizes ≡ 12 → (many place : ℕ) (ws : List ℕ) (b : Built) → built (cards_from a sheet_form many sizes place ws) ≡ Ok b → CardsWritten a sizes many place ws b
  unfolding cards_from
  cards_written twelve zero place ws b e = no_cards_written place ws b (end_written sheet_of_word End place ws b e)
  cards_written twelve (suc many) place ws b e =
      let c = card_written a sizes twelve (covered sizes) (λ mask there. there) (cards_from a sheet_form many sizes) sheet_of_card place ws b e in
      more_cards_written many place ws b c (cards_written twelve many (place + length (card_words c.one)) c.rest c.after c.goes_on)
