-- Calls that are made one by one, and by two seats beside one another.
use Rattle.std.proofs.Common.{◌≡◌, List, [], ◌∷◌, ◌++◌, map, refl, sym, ap, ◌∙◌, append_assoc}
use Rattle.std.proofs.lemmas.List.{map-append}
use Rattle.pass_numbers.specs.Numbers.{Numbered}
use Rattle.pass_numbers.proofs.Numbering.{swap_beside, same_beside}
use Rattle.shared_ledger.specs.declared.rule.Book.{Book}
use Rattle.shared_ledger.specs.declared.rule.Call.{Call}
use Rattle.shared_ledger.specs.Books.{numbers_in, kept_of, cut_of, both_of}
use Rattle.track_window.specs.declared.job.Act.{Act}
use Rattle.track_window.specs.Acts.{Acted, call_of_act}

pub acted_alone : (acts : List Act) (old new : Book) → new.calls ≡ old.calls ++ map call_of_act acts → numbers_in new ≡ numbers_in old → Acted acts old new
acted_alone acts old new calls numbers = record { calls = calls; numbered = λ others. same_beside numbers_in old new others numbers }

pub acted_both : (acts first rest : List Act) (old mid other front back new : Book) → first ++ rest ≡ acts
    → mid ≡ kept_of old → other ≡ cut_of old
    → ((others : List Book) → Numbered numbers_in (old ∷ others) → Numbered numbers_in (mid ∷ other ∷ others))
    → Acted first mid front → Acted rest other back → new ≡ both_of front back
    → ((others : List Book) → Numbered numbers_in (front ∷ back ∷ others) → Numbered numbers_in (new ∷ others))
    → Acted acts old new
acted_both acts first rest old mid other front back new whole kept cut split ahead behind both join = record {
  calls =
      ap (λ (b : Book). b.calls) both
      ∙ (λ i. (ahead.calls ∙ ap (λ (b : Book). b.calls ++ map call_of_act first) kept) i ++ (behind.calls ∙ ap (λ (b : Book). b.calls ++ map call_of_act rest) cut) i)
      ∙ append_assoc old.calls (map call_of_act first) (map call_of_act rest)
      ∙ ap (λ (cs : List Call). old.calls ++ cs) (sym (map-append call_of_act first rest) ∙ ap (map call_of_act) whole);
  numbered = λ others numbered.
      join others (swap_beside numbers_in back front others (behind.numbered (front ∷ others)
      (swap_beside numbers_in front other others (ahead.numbered (other ∷ others) (split others numbered)))));
}
