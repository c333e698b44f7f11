-- Words that are laid over others, one part after another.
use Rattle.std.proofs.Common.{◌≡◌, ℕ, ◌+◌, ◌*◌, ◌^◌, ◌<◌, ◌≤◌, List, [], ◌∷◌, ◌++◌, map, length, get_or, take, drop, set, sym, refl, ap, ◌∙◌, subst, add-zero, zero-add, add-one, arith}
use Rattle.std.specs.List.{All}
use Rattle.std.proofs.lemmas.List.{append_assoc, length-append, length-map, length-take-le, take-append-drop, take_at, drop_at, drop-drop, drop_more, set_split, get_or-map}
use Rattle.std.proofs.lemmas.List.Elements.{All-get_or}
use Rattle.words.specs.Layout.{word_of, high_part, low_part}
use Rattle.words.specs.declared.layout.Kind.TheVariants.{Card, Value, High, Low, End}
use Rattle.sheet.specs.Syntax.{Row}
use Rattle.sheet.specs.Scope.{scope_of, mask_of}
use Rattle.sheet.specs.Written.{row_words, rows_words, table_words}
use Rattle.sheet.proofs.ScopesLaws.{mask_again, slots_of_mask}
use Rattle.writer.specs.declared.output.Output.{Output}
use Rattle.writer.specs.Outputs.{HasRoom, Laid}
use Rattle.writer.specs.Writing.{laid, Writable, card_over}

laid_is : (at : ℕ) (others ws : List ℕ) → laid at others ws ≡ take at ws ++ (others ++ drop (at + length others) ws)
unfolding laid
laid_is at others ws = refl

pub laid_one : (at word : ℕ) (ws : List ℕ) → at < length ws → set ws at word ≡ laid at (word ∷ []) ws
laid_one at word ws h = rw (laid_is at (word ∷ []) ws, add-one at) (set_split ws at word h)

-- at the front, the part stands before what is kept
pub laid_front : (others ws : List ℕ) → laid 0 others ws ≡ others ++ drop (length others) ws
laid_front others ws = laid_is 0 others ws ∙ rw (zero-add (length others))

-- a part that is laid right behind another
laid_more : (at n : ℕ) (first second ws : List ℕ) → n ≡ at + length first → n ≤ length ws → laid n second (laid at first ws) ≡ laid at (first ++ second) ws
laid_more at n first second ws e h =
    let over = laid at first ws in
    let front : length (take at ws ++ first) ≡ n = rw (length-append, length-take-le at ws (omega arith)) (sym e) in
    let parts : over ≡ (take at ws ++ first) ++ drop n ws = rw (laid_is at first ws, append_assoc (take at ws) first (drop n ws), e) in
    let before : take n over ≡ take at ws ++ first = ap (take n) parts ∙ take_at _ (drop n ws) n front in
    let rest : drop n over ≡ drop n ws = ap (drop n) parts ∙ drop_at _ (drop n ws) n front in
    let behind : drop (n + length second) over ≡ drop (n + length second) ws =
    sym (drop-drop (length second) n over) ∙ ap (drop (length second)) rest ∙ drop-drop (length second) n ws in
    let far : at + length (first ++ second) ≡ n + length second = rw length-append (omega arith) in
    laid_is n second over
    ∙ rw (
      before,
      behind,
      laid_is at (first ++ second) ws,
      far,
      append_assoc (take at ws) first (second ++ drop (n + length second) ws),
      append_assoc first second (drop (n + length second) ws),
    )

pub laid_nothing : (o : Output) → HasRoom 0 o → Laid [] o o
laid_nothing o room = record {
  there = room;
  place = sym (add-zero o.place);
  words = sym (laid_is o.place [] o.words.now ∙ rw (add-zero o.place, take-append-drop o.place o.words.now));
  long = refl;
  same_reference = refl;
}

pub laid_on : {xs ys : List ℕ} {a b c : Output} → Laid xs a b → Laid ys b c → Laid (xs ++ ys) a c
laid_on {xs} {ys} {a} {b} {c} first second =
    let long = length-append xs ys in
    record {
      there = omega arith;
      place = omega arith;
      words = second.words ∙ ap (laid b.place ys) first.words ∙ laid_more a.place b.place xs ys a.words.now first.place (omega arith);
      long = second.long ∙ first.long;
      same_reference = second.same_reference ∙ first.same_reference;
    }

-- the first of the rows that are left, of rows that are given in another form
module _ {T : Type 0} (of : T → Row) (rows : List T) (i : ℕ) (d : T) (within : i < length rows) where
  rows_left : rows_words (map of (drop i rows)) ≡ row_words (of (get_or rows i d)) ++ rows_words (map of (drop (i + 1) rows))
  unfolding rows_words
  rows_left = ap (λ rs. rows_words (map of rs)) (drop_more rows i d within)

  rows_length : length (rows_words (map of (drop i rows))) ≡ length (row_words (of (get_or rows i d))) + length (rows_words (map of (drop (i + 1) rows)))
  rows_length = ap length rows_left ∙ length-append (row_words (of (get_or rows i d))) (rows_words (map of (drop (i + 1) rows)))

  -- a row more is counted
  pub counted_more : (len total : ℕ) → len + length (rows_words (map of (drop i rows))) ≡ total
      → len + (length (of (get_or rows i d)).values + 2) + length (rows_words (map of (drop (i + 1) rows))) ≡ total
  counted_more len total so_far =
      let row = of (get_or rows i d) in
      let long = length-append (map (word_of Value) row.values) (word_of High (high_part row.code) ∷ word_of Low (low_part row.code) ∷ []) in
      omega (arith, so_far, rows_length, long, length-map row.values (word_of Value))

  pub row_writable : All Writable (map of rows) → Writable (of (get_or rows i d))
  row_writable all =
      let long : i < length (map of rows) = rw (length-map rows of) within in
      subst Writable (get_or-map of rows i d (of d) within) (All-get_or Writable (map of rows) i (of d) long all)

  pub row_room : (now : Output) → HasRoom (length (rows_words (map of (drop i rows)))) now → HasRoom (length (row_words (of (get_or rows i d)))) now
  row_room now room = omega (arith, rows_length)

  module _ {now next : Output} (here : Laid (row_words (of (get_or rows i d))) now next) where
    pub rest_room : HasRoom (length (rows_words (map of (drop i rows)))) now → HasRoom (length (rows_words (map of (drop (i + 1) rows)))) next
    rest_room room = omega (arith, rows_length)

    pub rows_more : {after : Output} → Laid (rows_words (map of (drop (i + 1) rows))) next after → Laid (rows_words (map of (drop i rows))) now after
    rows_more {after} rest = subst (λ words. Laid words now after) (sym rows_left) (laid_on here rest)

-- a table is its CARD word, its rows and END
module _ (mask : ℕ) (rows : List Row) where
  pub length_table : length (table_words (card_over mask rows)) ≡ length (rows_words rows) + 2
  length_table = rw (length-append) (omega arith)

  pub table_laid : mask < 2 ^ 12 → (count last : ℕ) → count ≡ length rows → last ≡ 1 + length (rows_words rows) → {old new : Output}
      → Laid (word_of Card (mask + count * 2 ^ 12) ∷ rows_words rows ++ (word_of End last ∷ [])) old new → Laid (table_words (card_over mask rows)) old new
  table_laid small count last counts ends {old} {new} whole =
      let card : word_of Card (mask + count * 2 ^ 12) ≡ word_of Card (mask_of (scope_of mask) + length rows * 2 ^ 12) = rw (counts, mask_again (slots_of_mask mask small)) in
      let same : last ≡ length (word_of Card (mask_of (scope_of mask) + length rows * 2 ^ 12) ∷ rows_words rows) = omega arith in
      subst (λ words. Laid words old new)
      (ap (λ w. w ∷ rows_words rows ++ (word_of End last ∷ [])) card ∙ ap (λ n. (word_of Card (mask_of (scope_of mask) + length rows * 2 ^ 12) ∷ rows_words rows) ++ (word_of End n ∷ [])) same) whole
