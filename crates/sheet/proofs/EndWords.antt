-- What is wrong with an END word, by its load and by what follows it.
use Rattle.std.proofs.Common.{◌≡◌, ℕ, ◌+◌, ◌≤◌, List, length, drop, Some, None, Ok, Err, length-drop, eq-eqb, ne_eqb, arith}
use Rattle.words.specs.declared.fault.WordFault.{WordFault}
use Rattle.words.specs.declared.layout.Kind.TheVariants.{End}
use Rattle.words.specs.Layout.{load_due}
use Rattle.sheet.specs.ReadCard.{end_at}

pub end_unread : (place : ℕ) (ws : List ℕ) (f : WordFault) → Err f ≡ load_due End place ws → Err f ≡ end_at place ws
unfolding end_at
end_unread place ws f e = rw (← e)

module _ (place : ℕ) (ws : List ℕ) (load : ℕ) (read : Ok load ≡ load_due End place ws) where
  pub end_elsewhere : (load ≡ place → ⊥) → Ok (Some place) ≡ end_at place ws
  unfolding end_at
  end_elsewhere ne = rw (← read, ne_eqb load place ne)

  module _ (here : load ≡ place) (some : 1 ≤ length ws) where
    pub end_early : (length (drop 1 ws) ≡ 0 → ⊥) → Ok (Some (place + 1)) ≡ end_at place ws
    unfolding end_at
    end_early more = rw (← read, eq-eqb load place here, ne_eqb (length ws) 1 (λ one. more (omega (arith, length-drop 1 ws, one))))

    pub end_right : length (drop 1 ws) ≡ 0 → Ok None ≡ end_at place ws
    unfolding end_at
    end_right none = rw (← read, eq-eqb load place here, eq-eqb (length ws) 1 (omega (arith, length-drop 1 ws, none, some)))
