use Rattle.std.proofs.Common.{◌≡◌, ◌∙◌, ◌++◌, ◌∷◌, List, [], ap₂, length, refl, rules, subst, sym, arith}
use Rattle.std.proofs.lemmas.List.{nil_from_length, take-append-drop}
use Rattle.std.proofs.lemmas.Slice.Zip.{AllZip-long}
use Rattle.ticklab_check.specs.declared.checked.Timed.{Timed}
use Rattle.ticklab_check.specs.declared.source.Source.{Source}
use Rattle.ticklab.specs.declared.search.FileSearch.{FileSearch}
use Rattle.ticklab.proofs.EndedSearches.{AreOnTheWay, all_ended, none_ended, one_more_ended}
use Rattle.ticklab.proofs.searching.searched.Goals as goal

pub loop-search-init : goal.loop-search-init
loop-search-init g c =
    let sources = c.args.sources.now in
    let flying = c.split_at.result.0.now in
    let rest = c.split_at.result.1.now in
    let searches = c.in_ok-searches.searches.items in
    let whole : sources ≡ flying ++ rest = sym (ap₂ (λ (a b : List Source). a ++ b) c.split_at.ensures.front c.split_at.ensures.back ∙ take-append-drop _ sources) in
    subst (λ (files : List Timed). AreOnTheWay c.args.limits g.L.Listener.hears sources c.args.listener.now searches rest files c.args.listener.now) (sym c.new-files.ensures.items)
    (none_ended c.args.limits g.L.Listener.hears sources c.args.listener.now flying rest searches c.in_ok-searches.ensures
    (λ none. nil_from_length rest (let long : length searches ≡ length flying = AllZip-long _ _ _ c.in_ok-searches.ensures in
    let empty : length searches ≡ 0 = subst (λ (l : List FileSearch). length l ≡ 0) (sym none) refl in
    omega (arith, long, empty, c.split_at.ensures.front_len, c.split_at.ensures.back_len, c.min.ensures, c.max.ensures))) whole)

pub loop-search-preserved : goal.loop-search-preserved
loop-search-preserved g c =
    let sources = c.args.sources.now in
    let hears = g.L.Listener.hears in
    let first = c.args.listener.now in
    let files = c.loop-search.files.items in
    let rest = c.loop-search.rest.now in
    let others = c.in_ok-rest.rest.now in
    let after_it = c.one_more_begun.new.searches.items in
    subst (λ (all : List Timed). AreOnTheWay c.args.limits hears sources first after_it others all c.ended.new.listener) (sym c.in_ok-push.ensures.items)
    (one_more_ended c.args.limits hears sources first c.in-Some.search c.pop_front.new.self.items after_it rest others files c.loop-search.listener c.ended.new.listener
    c.in_ok-timed.timed
    (subst (λ (searches : List FileSearch). AreOnTheWay c.args.limits hears sources first searches rest files c.loop-search.listener) c.in-Some.ensures.items c.loop-search.invariant)
    c.in_ok-timed.ensures.ok c.in_ok-rest.ensures)

pub returns-clause-ok : goal.returns-clause-ok
returns-clause-ok g c =
    let searches = c.loop-search.searches.items in
    let none : searches ≡ [] = nil_from_length searches (search rules) in
    all_ended c.args.limits g.L.Listener.hears c.args.sources.now c.args.listener.now searches c.loop-search.rest.now c.loop-search.files.items c.loop-search.listener none
    c.loop-search.invariant
