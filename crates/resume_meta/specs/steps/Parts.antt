-- The parts of a meta text, as they were read. No public clause cites these.
use Rattle.resume_meta.specs.declared.parts.Parts.{Parts}
use Rattle.resume_meta.specs.steps.Reading.{PartTexts}

abbrev pub parts_told : Parts → PartTexts
parts_told parts = record {
  txid = parts.txid.now;
  records = parts.records.now;
  spans = parts.spans.now;
}
