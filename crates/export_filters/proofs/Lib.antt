mod FiltersLaws
