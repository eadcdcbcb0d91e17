-- Any two results that the promise of a public function allows are equal.
use mathlib.Core.Path.{◌≡◌, sym, ◌∙◌}
use borrow.Fn.Kinds.{Dens, res_t, ended_of}
use denote.Triple.Clauses.{AtExit}
use contract.Lifetimes.{Lfts}
use denote.RattleType.{RattleType}
use denote.Param.Laws.{Laws, IsCopy}
use mir.Syntax.{Dict}
use Rattle.std.specs.declared.clone.Clone.{Ghosts}
use Rattle.numbers.proofs.Determined.{One_result}
use Rattle.records_words.proofs.word.Kinds as word-kinds
use Rattle.records_words.proofs.word.Reads as word
use Rattle.records_words.proofs.pad.Kinds as pad-kinds
use Rattle.records_words.proofs.pad.Reads as pad
use Rattle.records_words.proofs.put.Kinds as put-kinds
use Rattle.records_words.proofs.put.Reads as put
use Rattle.records_words.proofs.zero_words.Kinds as zero-words-kinds
use Rattle.records_words.proofs.zero_words.Reads as zero-words
use Rattle.records_words.proofs.zero_signed.Kinds as zero-signed-kinds
use Rattle.records_words.proofs.zero_signed.Reads as zero-signed

pub word_determined : One_result 1 word-kinds.ps word-kinds.r word.Post
word_determined κs a x y e f p q = p ∙ sym q

pub put_determined : (κs : Lfts 1) (a : Dens κs put-kinds.ps) (x y : (res_t put-kinds.r κs).Denot) (e f : AtExit (ended_of 1 put-kinds.ps put-kinds.r) κs) →
    put.Post κs a x e → put.Post κs a y f → e.0.now ≡ f.0.now
put_determined κs a x y e f p q = p ∙ sym q

pub pad_determined : (T : RattleType) (L : Laws T) (C : IsCopy T) (G : Ghosts T.Denot) (D : Dict) (κs : Lfts 2) (a : Dens κs (pad-kinds.ps T L C))
    (x y : (res_t (pad-kinds.r T L C) κs).Denot) (e f : AtExit (ended_of 2 (pad-kinds.ps T L C) (pad-kinds.r T L C)) κs) →
    pad.Post T L C G D κs a x e → pad.Post T L C G D κs a y f → e.0.now ≡ f.0.now
pad_determined T L C G D κs a x y e f p q = p ∙ sym q

pub zero_words_determined : (κs : Lfts 1) (a : Dens κs zero-words-kinds.ps) (x y : (res_t zero-words-kinds.r κs).Denot) (e f : AtExit (ended_of 1 zero-words-kinds.ps zero-words-kinds.r) κs) →
    zero-words.Post κs a x e → zero-words.Post κs a y f → e.0.now ≡ f.0.now
zero_words_determined κs a x y e f p q = p ∙ sym q

pub zero_signed_determined : (κs : Lfts 1) (a : Dens κs zero-signed-kinds.ps) (x y : (res_t zero-signed-kinds.r κs).Denot) (e f : AtExit (ended_of 1 zero-signed-kinds.ps zero-signed-kinds.r) κs) →
    zero-signed.Post κs a x e → zero-signed.Post κs a y f → e.0.now ≡ f.0.now
zero_signed_determined κs a x y e f p q = p ∙ sym q
