-- A CARD word whose slots keep a rule: from the CARD word and the rule, or from the sizes that are handed out where it is kept.
use Rattle.std.proofs.Common.{◌≡◌, ℕ, Bool, true, false, cond, ◌&&◌, List, Some, None, Ok, Err, Result, refl, sym, ap, ◌∙◌}
use mathlib.Core.Bool.{and-false}
use Rattle.words.specs.declared.fault.WordFault.{WordFault}
use Rattle.words.specs.declared.layout.Kind.TheVariants.{Card}
use Rattle.words.specs.Layout.{load_due}
use Rattle.faults.specs.declared.fault.CardFault.{CardFault}
use Rattle.faults.specs.declared.fault.CardFault.TheVariants.{Number}
use Rattle.sheet.specs.declared.item.CardHead.{CardHead}
use Rattle.faults.specs.Faults.{card_of_word}
use Rattle.sheet.specs.Loads.{card_of}
use Rattle.sheet.specs.ReadCard.{card_at}
use Rattle.sheet.specs.Reading.{on_read}
use Rattle.sheet.specs.Rules.{card_fits}

module _ (rule : ℕ → Bool) (bad : CardFault) (h : CardHead) where
  passed : (c : CardHead) (s : Bool) → Ok c ≡ cond s (Ok h) (Err bad) → rule c.scope ≡ true → Ok c ≡ cond (rule h.scope && s) (Ok h) (Err bad)
  passed c true e t =
      let same : c ≡ h = cc in
      let kept : rule h.scope ≡ true = ap (λ x. rule x.scope) (sym same) ∙ t in
      rw kept (ap Ok same)
  passed c false e t = cc

  refused : (c : CardHead) (s : Bool) → Ok c ≡ cond s (Ok h) (Err bad) → rule c.scope ≡ false → Err bad ≡ cond (rule h.scope && s) (Ok h) (Err bad)
  refused c true e t =
      let same : c ≡ h = cc in
      let broken : rule h.scope ≡ false = ap (λ x. rule x.scope) (sym same) ∙ t in
      rw broken
  refused c false e t = cc

  unread : (f : CardFault) (s : Bool) → Err f ≡ cond s (Ok h) (Err bad) → Err f ≡ cond (rule h.scope && s) (Ok h) (Err bad)
  unread f true e = cc
  unread f false e = rw (and-false (rule h.scope)) e

module _ (rule : ℕ → Bool) (place : ℕ) (ws : List ℕ) where
  abbrev enough : ℕ → Bool
  enough load = card_fits (λ _. true) (card_of load)

  abbrev plain : Result ℕ WordFault → Result CardHead CardFault
  plain r = on_read card_of_word r (λ load. cond (card_fits (λ _. true) (card_of load)) (Ok (card_of load)) (Err (Number place)))

  abbrev ruled : Result ℕ WordFault → Result CardHead CardFault
  ruled r = on_read card_of_word r (λ load. cond (card_fits rule (card_of load)) (Ok (card_of load)) (Err (Number place)))

  pub card_passed : (c : CardHead) → Ok c ≡ card_at (λ _. true) place ws → rule c.scope ≡ true → Ok c ≡ card_at rule place ws
  unfolding card_at
  card_passed c e t = go (load_due Card place ws) e
    where
      go : (r : Result ℕ WordFault) → Ok c ≡ plain r → Ok c ≡ ruled r
      go (Ok load) e = passed rule (Number place) (card_of load) c (enough load) e t
      go (Err f) e = cc

  pub card_refused : (c : CardHead) → Ok c ≡ card_at (λ _. true) place ws → rule c.scope ≡ false → Err (Number place) ≡ card_at rule place ws
  unfolding card_at
  card_refused c e t = go (load_due Card place ws) e
    where
      go : (r : Result ℕ WordFault) → Ok c ≡ plain r → Err (Number place) ≡ ruled r
      go (Ok load) e = refused rule (Number place) (card_of load) c (enough load) e t
      go (Err f) e = cc

  pub card_unread : (f : CardFault) → Err f ≡ card_at (λ _. true) place ws → Err f ≡ card_at rule place ws
  unfolding card_at
  card_unread f e = go (load_due Card place ws) e
    where
      go : (r : Result ℕ WordFault) → Err f ≡ plain r → Err f ≡ ruled r
      go (Ok load) e = unread rule (Number place) (card_of load) f (enough load) e
      go (Err g) e = e

pub is_covered : {A : Type 0} (kept : Bool) (x y : A) → Some x ≡ cond kept (Some y) None → kept ≡ true
is_covered true x y e = refl
is_covered false x y e = cc

pub not_covered : {A : Type 0} (kept : Bool) (y : A) → None ≡ cond kept (Some y) None → kept ≡ false
not_covered true y e = cc
not_covered false y e = refl
