use Rattle.elfrec.proofs.Bytes.{header_exact, segment_exact, section_exact, symbol_exact, rela_exact}
use Rattle.elfrec.proofs.exact.records_are_exact.Goals as goal

pub returns-clause-header : goal.returns-clause-header
returns-clause-header c = header_exact

pub returns-clause-segment : goal.returns-clause-segment
returns-clause-segment c = segment_exact

pub returns-clause-section : goal.returns-clause-section
returns-clause-section c = section_exact

pub returns-clause-symbol : goal.returns-clause-symbol
returns-clause-symbol c = symbol_exact

pub returns-clause-rela : goal.returns-clause-rela
returns-clause-rela c = rela_exact
