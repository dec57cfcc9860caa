-- What sources mean, one after the other.
use Rattle.std.proofs.Common.{◌≡◌, ◌+◌, ◌<◌, ℕ, List, [], ◌∷◌, ◌++◌, map, take, drop, length, get_or, refl, sym, ap, ◌∙◌, arith}
use Rattle.std.proofs.lemmas.List.{take_more, drop_more, take-append-drop, map-append, length-map, length-take-le}
use Rattle.description_lexer.specs.declared.description_fault.DescriptionFault.{DescriptionFault}
use Rattle.description_lexer.specs.declared.description_fault.DescriptionFault.TheVariants as description
use Rattle.instants_words.specs.Sources.{SourceSaid, said_by}
use Rattle.instants_words.specs.declared.sources.SourceText.{SourceText}
use Rattle.instants_sources.specs.Grammar.{Grammar, Means, IsRefused}
use Rattle.instants_faults.specs.Refusals.{refused_at}
use Rattle.instants_timeline.specs.Sources.{AllMean, IsRefusal}

-- one source more, and what it means
pub mean_more : (said : List SourceSaid) (grammars : List Grammar) (s : SourceSaid) (g : Grammar) → AllMean said grammars → Means s g → AllMean (said ++ s ∷ []) (grammars ++ g ∷ [])
mean_more [] [] s g all one = (one, tt)
mean_more [] (h ∷ grammars) s g all one = absurd all
mean_more (t ∷ said) [] s g all one = absurd all
mean_more (t ∷ said) (h ∷ grammars) s g all one = (all.0, mean_more said grammars s g all.1 one)

-- the refused source after those that mean something
pub refused_next : (before : List SourceSaid) (s : SourceSaid) (after : List SourceSaid) (grammars : List Grammar) (fault : DescriptionFault)
    → AllMean before grammars → IsRefused s fault → IsRefusal (before ++ s ∷ after) (refused_at (length before + 1) fault)
refused_next before s after grammars (description.Description fault) all one =
    record { before = before; refused = s; after = after; parts = refl; is_place = refl; grammars = grammars; good = all; is_faulty = one }
refused_next before s after grammars description.Memory all one = tt

-- the same by places in a list of texts
pub mean_index : (texts : List SourceText) (i : ℕ) (d : SourceText) (grammars : List Grammar) (g : Grammar) → i < length texts
    → AllMean (map said_by (take i texts)) grammars → Means (said_by (get_or texts i d)) g → AllMean (map said_by (take (i + 1) texts)) (grammars ++ g ∷ [])
mean_index texts i d grammars g h all one =
    rw (take_more texts i d h, map-append said_by (take i texts) (get_or texts i d ∷ [])) (mean_more (map said_by (take i texts)) grammars (said_by (get_or texts i d)) g all one)

pub refused_index : (texts : List SourceText) (i : ℕ) (d : SourceText) (grammars : List Grammar) (fault : DescriptionFault) → i < length texts
    → AllMean (map said_by (take i texts)) grammars → IsRefused (said_by (get_or texts i d)) fault → IsRefusal (map said_by texts) (refused_at (i + 1) fault)
refused_index texts i d grammars fault h all one =
    let before = map said_by (take i texts) in
    let count : length before ≡ i = length-map (take i texts) said_by ∙ length-take-le i texts (omega (arith, h)) in
    let cut : texts ≡ take i texts ++ get_or texts i d ∷ drop (i + 1) texts = sym (take-append-drop i texts) ∙ ap (λ rest. take i texts ++ rest) (drop_more texts i d h) in
    let parts : map said_by texts ≡ before ++ said_by (get_or texts i d) ∷ map said_by (drop (i + 1) texts) =
    ap (λ xs. map said_by xs) cut ∙ map-append said_by (take i texts) (get_or texts i d ∷ drop (i + 1) texts) in
    let next = refused_next before (said_by (get_or texts i d)) (map said_by (drop (i + 1) texts)) grammars fault all one in
    rw parts (rw count at next)
