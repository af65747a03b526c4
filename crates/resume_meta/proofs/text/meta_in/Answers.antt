use Rattle.std.proofs.Common.{◌≡◌, ap, sym, ◌∙◌}
use Rattle.std.proofs.lemmas.Option.{none-some, same_Some}
use Rattle.resume_meta.specs.steps.Parts.{parts_told}
use Rattle.resume_meta.specs.steps.Reading.{PartTexts}
use Rattle.resume_meta.proofs.TextsRead.{meta_made, parts_there, texts_of}
use Rattle.resume_meta.proofs.text.meta_in.Goals as goal

pub returns-in_default-clause-only : goal.returns-in_default-clause-only
returns-in_default-clause-only c = λ meta is.
    absurd (none-some (texts_of meta) (c.in_default.ensures ∙ parts_there c.args.bytes.now meta is))

pub returns-in_default-number_of-clause-only : goal.returns-in_default-number_of-clause-only
returns-in_default-number_of-clause-only c = λ meta is.
    let same : parts_told c.in-Some.parts ≡ texts_of meta = same_Some _ _ (c.in-Some.ensures ∙ parts_there c.args.bytes.now meta is) in
    absurd (none-some meta.txid (c.in_default-number_of.ensures meta.txid is.is_meta.txid (ap (λ (p : PartTexts). p.txid) same)))

pub returns-in_default-number_of-2-clause-only : goal.returns-in_default-number_of-2-clause-only
returns-in_default-number_of-2-clause-only c = λ meta is.
    let same : parts_told c.in-Some.parts ≡ texts_of meta = same_Some _ _ (c.in-Some.ensures ∙ parts_there c.args.bytes.now meta is) in
    absurd (none-some meta.records (c.in_default-number_of-2.ensures meta.records is.is_meta.records (ap (λ (p : PartTexts). p.records) same)))

pub returns-in_default-2-clause-only : goal.returns-in_default-2-clause-only
returns-in_default-2-clause-only c = λ meta is.
    let same : parts_told c.in-Some.parts ≡ texts_of meta = same_Some _ _ (c.in-Some.ensures ∙ parts_there c.args.bytes.now meta is) in
    absurd (none-some meta.spans (sym c.in_default-2.is ∙ c.in_ok-spans.ensures.only meta.spans is.is_meta.spans (ap (λ (p : PartTexts). p.spans) same)))

pub returns-clause-only : goal.returns-clause-only
returns-clause-only c = λ meta is.
    let same : parts_told c.in-Some.parts ≡ texts_of meta = same_Some _ _ (c.in-Some.ensures ∙ parts_there c.args.bytes.now meta is) in
    let txid = same_Some _ _ (c.in-Some-number_of.ensures meta.txid is.is_meta.txid (ap (λ (p : PartTexts). p.txid) same)) in
    let records = same_Some _ _ (c.in-Some-number_of-2.ensures meta.records is.is_meta.records (ap (λ (p : PartTexts). p.records) same)) in
    let spans = same_Some _ _ (sym c.in-Some-2.is ∙ c.in_ok-spans.ensures.only meta.spans is.is_meta.spans (ap (λ (p : PartTexts). p.spans) same)) in
    meta_made meta _ _ _ txid records spans
