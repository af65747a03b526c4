-- A line that is an array of texts is read right by its tokens alone.
use Rattle.std.proofs.Common.{◌≡◌, ℕ, zero, suc, List, [], ◌∷◌, ◌++◌, length, Option, Some, None, IfSome, option_map, option_and_then, refl, ap, sym, subst, ◌∙◌}
use Rattle.std.proofs.lemmas.List.{append_assoc, append-nil}
use Rattle.std.proofs.lemmas.Option.{none-some, same_Some}
use Rattle.std.specs.Option.{option_or}
use Rattle.std.specs.Str.{IsUtf8}
use Rattle.json.specs.Token.{Token}
use Rattle.json.specs.Lex.{tokens}
use Rattle.json.specs.Json.{items, value, parse_map, if_last, after_end_array}
use Rattle.json.specs.Json as json
use Rattle.serde_json.specs.Data.{Data, array, Items, no_items, item, string}
use Rattle.serde_json.specs.Find.{as_array}
use Rattle.serde_json.specs.Read.{read, of_json, of_items}
use Rattle.storm_values.specs.declared.value.Value.{Value}
use Rattle.storm_values.specs.declared.value.Value.TheVariants.{Text}
use Rattle.storm_values.specs.declared.lines.LineFault.{LineFault}
use Rattle.storm_values.specs.declared.lines.LineFault.TheVariants.{BadItem}
use Rattle.storm_values.specs.Json.{json_of}
use Rattle.storm_values.specs.Lines.{first_some, array_of, not_json, not_array, bad_item, values_of, first_bad_item}
use Rattle.storm_values.specs.steps.Texts.{texts_from, IsRead, unread_fault}
use Rattle.storm_values.proofs.LineLemmas.{json_of-Some}

-- ---- the texts so far

abbrev pub after : List Value → Option (List Value × List Token) → Option (List Value × List Token)
after row found = option_map (λ (read : List Value × List Token). (row ++ read.0, read.1)) found

pub texts_begin : (row : List Value) (ts : List Token) → row ≡ [] → texts_from ts ≡ after row (texts_from ts)
texts_begin row ts empty = rw empty (same (texts_from ts))
  where
    same : (found : Option (List Value × List Token)) → found ≡ after [] found
    same None = refl
    same (Some read) = refl

texts_from-string : (s : List ℕ) (ts : List Token) → texts_from (Token.string s ∷ ts) ≡ option_map (λ read. (Text s ∷ read.0, read.1)) (texts_from ts)
unfolding texts_from
texts_from-string s ts = refl

pub texts_more : (all ts rest : List Token) (row : List Value) (s : List ℕ) → texts_from all ≡ after row (texts_from ts) → ts ≡ Token.string s ∷ rest → texts_from all ≡ after (row ++ Text s ∷ []) (texts_from rest)
texts_more all ts rest row s is step = is ∙ ap (λ tokens. after row (texts_from tokens)) step ∙ ap (after row) (texts_from-string s rest) ∙ next (texts_from rest)
  where
    next : (found : Option (List Value × List Token)) → after row (option_map (λ read. (Text s ∷ read.0, read.1)) found) ≡ after (row ++ Text s ∷ []) found
    next None = refl
    next (Some read) = ap (λ values. Some (values, read.1)) (sym (append_assoc row (Text s ∷ []) read.0))

texts_from-end : (ts rest : List Token) → after_end_array ts ≡ Some rest → texts_from ts ≡ Some ([], rest)
unfolding texts_from
texts_from-end [] rest is = absurd (none-some rest is)
texts_from-end (Token.end_array ∷ ts) rest is = ap (λ tokens. Some ([], tokens)) (same_Some ts rest is)
texts_from-end (Token.begin_object ∷ ts) rest is = absurd (none-some rest is)
texts_from-end (Token.end_object ∷ ts) rest is = absurd (none-some rest is)
texts_from-end (Token.begin_array ∷ ts) rest is = absurd (none-some rest is)
texts_from-end (Token.key s ∷ ts) rest is = absurd (none-some rest is)
texts_from-end (Token.string s ∷ ts) rest is = absurd (none-some rest is)
texts_from-end (Token.number s ∷ ts) rest is = absurd (none-some rest is)
texts_from-end (Token.boolean b ∷ ts) rest is = absurd (none-some rest is)
texts_from-end (Token.null ∷ ts) rest is = absurd (none-some rest is)
texts_from-end (Token.bad ∷ ts) rest is = absurd (none-some rest is)

pub texts_end : (all ts rest : List Token) (row : List Value) → texts_from all ≡ after row (texts_from ts) → after_end_array ts ≡ Some rest → rest ≡ [] → texts_from all ≡ Some (row, [])
texts_end all ts rest row is closed last =
    is ∙ ap (after row) (texts_from-end ts rest closed) ∙ ap (λ values. Some (values, rest)) (append-nil row) ∙ ap (λ tokens. Some (row, tokens)) last

-- ---- what the tokens mean

-- the tokens are the items of an array, up to its bracket, and the items are these values
record Reads (depth : ℕ) (ts : List Token) (row : List Value) (rest : List Token) : Type 0 where
  spelled : json.Items
  entries : Items
  reads : items (value depth) (length ts) ts ≡ Some (spelled, rest)
  means : of_items spelled ≡ Some entries
  good : (at : ℕ) → first_bad_item at entries ≡ None
  values : values_of entries ≡ row

ends : (depth : ℕ) (ts : List Token) → Reads depth (Token.end_array ∷ ts) [] ts
unfolding items
ends depth ts = record { spelled = json.no_items; entries = no_items; reads = refl; means = refl; good = λ at. refl; values = refl }

value-string : (depth : ℕ) (s : List ℕ) (ts : List Token) → value depth (Token.string s ∷ ts) ≡ Some (json.string s, ts)
unfolding value
value-string zero s ts = refl
value-string (suc depth) s ts = refl

items-string : (depth : ℕ) (s : List ℕ) (ts : List Token) → items (value depth) (length (Token.string s ∷ ts)) (Token.string s ∷ ts) ≡ option_and_then (λ p. parse_map (json.item p.0) (items (value depth) (length ts) p.1)) (value depth (Token.string s ∷ ts))
unfolding items
items-string depth s ts = refl

begins : (depth : ℕ) (s : List ℕ) (ts rest : List Token) (row : List Value) → Reads depth ts row rest → Reads depth (Token.string s ∷ ts) (Text s ∷ row) rest
begins depth s ts rest row r = record {
  spelled = json.item (json.string s) r.spelled;
  entries = item (string s) r.entries;
  reads = items-string depth s ts ∙ ap (option_and_then (λ p. parse_map (json.item p.0) (items (value depth) (length ts) p.1))) (value-string depth s ts) ∙ ap (parse_map (json.item (json.string s))) r.reads;
  means = ap (option_map (item (string s))) r.means;
  good = λ at. r.good (suc at);
  values = ap (λ values. Text s ∷ values) r.values;
}

reads_texts : (depth : ℕ) (ts : List Token) (row : List Value) (rest : List Token) → texts_from ts ≡ Some (row, rest) → Reads depth ts row rest
unfolding texts_from
reads_texts depth [] row rest is = absurd (none-some _ is)
reads_texts depth (Token.end_array ∷ ts) row rest is =
    let same = same_Some _ _ is in
    subst (λ values. Reads depth (Token.end_array ∷ ts) values rest) (ap (λ (p : List Value × List Token). p.0) same) (subst (Reads depth (Token.end_array ∷ ts) []) (ap (λ (p : List Value × List Token). p.1) same) (ends depth ts))
reads_texts depth (Token.string s ∷ ts) row rest is = more (texts_from ts) (reads_texts depth ts) is
  where
    more : (found : Option (List Value × List Token)) → ((r : List Value) (q : List Token) → found ≡ Some (r, q) → Reads depth ts r q) → option_map {U = List Value × List Token} (λ p. (Text s ∷ p.0, p.1)) found ≡ Some (row, rest) → Reads depth (Token.string s ∷ ts) row rest
    more None later is = absurd (none-some _ is)
    more (Some found) later is =
        let same = same_Some _ _ is in
        subst (λ values. Reads depth (Token.string s ∷ ts) values rest) (ap (λ (p : List Value × List Token). p.0) same) (subst (Reads depth (Token.string s ∷ ts) (Text s ∷ found.0)) (ap (λ (p : List Value × List Token). p.1) same) (begins depth s ts found.1 found.0 (later found.0 found.1 refl)))
reads_texts depth (Token.begin_object ∷ ts) row rest is = absurd (none-some _ is)
reads_texts depth (Token.end_object ∷ ts) row rest is = absurd (none-some _ is)
reads_texts depth (Token.begin_array ∷ ts) row rest is = absurd (none-some _ is)
reads_texts depth (Token.key s ∷ ts) row rest is = absurd (none-some _ is)
reads_texts depth (Token.number s ∷ ts) row rest is = absurd (none-some _ is)
reads_texts depth (Token.boolean b ∷ ts) row rest is = absurd (none-some _ is)
reads_texts depth (Token.null ∷ ts) row rest is = absurd (none-some _ is)
reads_texts depth (Token.bad ∷ ts) row rest is = absurd (none-some _ is)

value-array : (depth : ℕ) (ts : List Token) → value (suc depth) (Token.begin_array ∷ ts) ≡ parse_map json.array (items (value depth) (length ts) ts)
unfolding value
value-array depth ts = refl

-- an array of texts and nothing behind it
pub is_read : (line : List ℕ) (row : List Value) (ts : List Token) → IsUtf8 line → tokens line ≡ Token.begin_array ∷ ts → texts_from ts ≡ Some (row, []) → IsRead line row
is_read line row ts utf8 begin is =
    let r = reads_texts 126 ts row [] is in
    let spells : read line ≡ Some (array r.entries) =
    ap (λ all. option_and_then of_json (option_and_then (λ p. if_last p.0 p.1) (value 127 all))) begin
    ∙ ap (λ found. option_and_then of_json (option_and_then (λ p. if_last p.0 p.1) found)) (value-array 126 ts ∙ ap (parse_map json.array) r.reads)
    ∙ ap (option_map array) r.means in
    record {
      items = r.entries;
      array = ap (option_and_then as_array) (json_of-Some line (array r.entries) utf8 spells);
      good = ap (option_map BadItem) (r.good 0);
      values = sym r.values;
    }

pub some_read : (line : List ℕ) (ts : List Token) → IsUtf8 line → tokens line ≡ Token.begin_array ∷ ts → (found : Option (List Value)) → IfSome found (λ row. texts_from ts ≡ Some (row, [])) → IfSome found (IsRead line)
some_read line ts utf8 begin None is = tt
some_read line ts utf8 begin (Some row) is = is_read line row ts utf8 begin is

-- ---- the faults

pub unread-no_array : (line : List ℕ) (fault : LineFault) → option_or (not_json (json_of line)) (not_array (array_of line)) ≡ Some fault → unread_fault line ≡ Some fault
unread-no_array line fault is = by (not_json (json_of line)) (not_array (array_of line)) is
  where
    by : (a b : Option LineFault) → option_or a b ≡ Some fault → first_some (a ∷ b ∷ bad_item (array_of line) ∷ []) ≡ Some fault
    by (Some first) b is = is
    by None (Some next) is = is
    by None None is = absurd (none-some fault is)

pub unread-BadItem : (line : List ℕ) (entries : Items) (fault : LineFault) → array_of line ≡ Some entries → bad_item (Some entries) ≡ Some fault → unread_fault line ≡ Some fault
unread-BadItem line entries fault is bad = by (json_of line) is
  where
    by : (found : Option Data) → option_and_then as_array found ≡ Some entries → first_some (not_json found ∷ not_array (option_and_then as_array found) ∷ bad_item (option_and_then as_array found) ∷ []) ≡ Some fault
    by None is = absurd (none-some entries is)
    by (Some entry) is = rw (is, bad) refl
